use Rattle.structure_changes.proofs.Words.{◌∙◌, refl, sym, arith, false≢true}
use Rattle.structure_changes.proofs.HoldFits.{free_so_far, free_there}
use Rattle.structure_changes.proofs.hold.has_free_neighbours.Goals as goal
use Rattle.structure_changes.proofs.hold.has_free_neighbours.Goals.{then-not-is_free_beside-via-then-not-is_free_beside, then-not-is_free_beside-via-else-not-is_free_beside+then-not-is_free_beside-2}

pub loop-place-preserved : goal.loop-place-preserved
loop-place-preserved c =
    free_so_far c.args.key.now c.args.items.now c.loop-place.place c.index-items-place.result c.index-items-place-in-loop-place.result c.loop-place.auto.place c.loop-place-test.true
    c.index-items-place.is c.index-items-place-in-loop-place.is c.loop-place.invariant
    (c.is_free_beside.ensures.0 c.if-not-is_free_beside.false)
    (c.is_free_beside-else-not-is_free_beside.ensures.0 c.if-not-is_free_beside-2.false)

pub returns-then-not-is_free_beside : goal.returns-then-not-is_free_beside
returns-then-not-is_free_beside c = (
  (λ yes. absurd (false≢true yes)),
  (λ free.
      let both = free_there c.args.key.now c.args.items.now c.loop-place.place c.index-items-place.result c.index-items-place-in-loop-place.result c.loop-place.auto.place c.loop-place-test.true
      c.index-items-place.is c.index-items-place-in-loop-place.is free in
      elim c.then-not-is_free_beside.branch [
        | then-not-is_free_beside-via-then-not-is_free_beside w ↦ absurd (false≢true (sym w.if-not-is_free_beside.true ∙ c.is_free_beside.ensures.1 both.0))
        | then-not-is_free_beside-via-else-not-is_free_beside+then-not-is_free_beside-2 w ↦
            absurd (false≢true (sym w.if-not-is_free_beside-2.true ∙ w.is_free_beside-else-not-is_free_beside.ensures.1 both.1))
      ]),
)

pub returns : goal.returns
returns c = ((λ yes n lt. c.loop-place.invariant n (let end = c.loop-place-test.false in omega (arith, lt, end))), (λ free. refl))
