use Rattle.running_tree.proofs.Words.{◌≡◌, ℕ, ap, arith, subst, ◌∙◌, Limits, count_of, HasCounted, Seat}
use Rattle.running_tree.proofs.Counting.{all_counted, counted_none, watched_more}
use Rattle.running_tree.proofs.Going.{same_on, same_self}
use Rattle.running_tree.proofs.seat.BwSeat.count_free.Goals as goal

pub loop-word-init : goal.loop-word-init
loop-word-init g c = record {
  same = same_self c.args.self.now;
  counted = counted_none c.args.self.now.limits c.args.self.now.actor c.args.kind c.args.self.now.seen;
  few = omega arith;
}

pub loop-word-preserved : goal.loop-word-preserved
loop-word-preserved g c =
    let v = c.loop-word.invariant in
    let told = c.watch_bits-count.ensures in
    record {
      same = same_on _ _ _ v.same told.same;
      counted = watched_more c.args.kind c.args.self.now c.loop-word.self c.watch_bits-count.new.self c.loop-word.word c.loop-word.count c.watch_bits-count.result v.same v.counted told.watched;
      few = omega (arith, v.few, told.few);
    }

pub returns-clause-counted : goal.returns-clause-counted
returns-clause-counted g c =
    let limits : c.self.inside.limits ≡ c.args.self.now.limits = ap (λ (s : Seat). s.limits) c.self.view_is in
    let all = all_counted c.args.self.now.limits c.args.kind c.loop-word.word c.count-word-end.result
    (c.count-word-end.ensures ∙ ap (λ (l : Limits). count_of l c.args.kind) c.limits.ensures ∙ ap (λ (l : Limits). count_of l c.args.kind) limits) c.loop-word.auto.word-end c.loop-word-test.false in
    subst (λ (n : ℕ). HasCounted c.args.self.now.limits c.args.self.now.actor c.args.kind n c.args.self.now.seen c.loop-word.self.seen c.loop-word.count) all c.loop-word.invariant.counted
