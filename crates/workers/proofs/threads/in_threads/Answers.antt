use Rattle.std.proofs.Common.{◌≡◌, ◌∙◌, subst}
use Rattle.workers.specs.Works.{IsWorkDone}
use Rattle.seats.proofs.Seeing.{index_is, slice_get_below}
use Rattle.workers.proofs.threads.in_threads.Goals as goal

pub returns : goal.returns
returns g c = record {
  count = c.for_each_mut.auto.s;
  each = λ n old new at at_new.
      let below = slice_get_below c.args.jobs.now n old at in
      let h = (c.for_each_mut.ensures n old below).1 in
      let first : h.argument.now ≡ old = h.argument_is ∙ index_is c.args.jobs.now n old old at in
      let last : h.after_call.now ≡ new = h.left ∙ index_is c.for_each_mut.new.s n new old at_new in
      rw (← first) (subst (IsWorkDone g.W.Work.does h.argument.now) last h.call);
}
