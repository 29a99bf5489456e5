use Rattle.std.proofs.Common.{◌≡◌, ◌+◌, ◌-◌, sym, ◌∙◌, arith}
use Rattle.epochs.proofs.Queues.{IsMoved, none_moved, one_gone, one_kept}
use Rattle.epochs.proofs.queue.keep_at_end.Goals as goal

pub loop-place-init : goal.loop-place-init
loop-place-init c = (c.requires.order, none_moved c.args.entries.now c.args.end c.args.word)

pub loop-place-preserved-then-not-goes_with : goal.loop-place-preserved-then-not-goes_with
loop-place-preserved-then-not-goes_with c =
    let next : c.loop-place.place ≡ c.loop-place.place - 1 + 1 = omega (arith, c.loop-place-test.true) in
    let moved : IsMoved c.args.entries.now c.loop-place.entries c.args.end c.args.word c.loop-place.kept (c.loop-place.place - 1 + 1) = rw next at c.loop-place.invariant.1 in (
      omega (arith, c.loop-place-test.true),
      one_kept c.args.entries.now c.loop-place.entries c.args.end c.args.word c.loop-place.kept (c.loop-place.place - 1) _
          moved c.requires.within c.loop-place.auto.entries (sym c.goes_with.ensures ∙ c.if-not-goes_with.true),
    )

pub loop-place-preserved : goal.loop-place-preserved
loop-place-preserved c =
    let next : c.loop-place.place ≡ c.loop-place.place - 1 + 1 = omega (arith, c.loop-place-test.true) in
    let moved : IsMoved c.args.entries.now c.loop-place.entries c.args.end c.args.word c.loop-place.kept (c.loop-place.place - 1 + 1) = rw next at c.loop-place.invariant.1 in (
      omega (arith, c.loop-place-test.true),
      one_gone c.args.entries.now c.loop-place.entries c.args.end c.args.word c.loop-place.kept (c.loop-place.place - 1) _
          moved c.requires.within (sym c.goes_with.ensures ∙ c.if-not-goes_with.false),
    )
