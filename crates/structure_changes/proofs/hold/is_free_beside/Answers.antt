use Rattle.structure_changes.proofs.Words.{refl, sym, ◌∙◌, false≢true, not_true}
use Rattle.structure_changes.proofs.Places.{decides_key}
use Rattle.structure_changes.proofs.hold.is_free_beside.Goals as goal

pub returns-then-not-is_eq : goal.returns-then-not-is_eq
returns-then-not-is_eq c =
    let same = decides_key c.args.one.now.key c.args.key.now c.is_eq.result (rw (← c.cmp.ensures) c.is_eq.ensures) in (
      (λ yes is. absurd (false≢true (sym c.if-not-is_eq.true ∙ same.1 is))),
      (λ free. rw c.if-not-is_eq.true refl),
    )

pub returns-else-not-is_eq : goal.returns-else-not-is_eq
returns-else-not-is_eq c =
    let same = decides_key c.args.one.now.key c.args.key.now c.is_eq.result (rw (← c.cmp.ensures) c.is_eq.ensures) in (
      (λ yes is. sym c.is_held.ensures ∙ not_true c.is_held.result yes),
      (λ free. rw (c.is_held.ensures, free (same.0 c.if-not-is_eq.false)) refl),
    )
