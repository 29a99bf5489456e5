-- An operation that changes the tree nine times.
use Rattle.std.proofs.Common.{◌≡◌, ◌<◌, ◌≤◌, ◌+◌, ℕ, [], ◌∷◌, List, Some, None, true, refl, arith, lit<, lit≤}
use Rattle.std.specs.Prelude.{slice_get, slice_index}
use Rattle.std.specs.List.{All}
use Rattle.std.specs.List.Sorted.{IsStrictlyIncreasing}
use Rattle.std.proofs.lemmas.List.Elements.{All-from_recursion}
use Rattle.bw_model.specs.declared.step.Answer.TheVariants.{Whether}
use Rattle.bw_model.specs.declared.step.Link.TheVariants as link
use Rattle.linearization.proofs.Words.{Exchange, Happens, memory_at, HasFewChanges, ChangesTree}
use Rattle.traces.specs.declared.trace.Entry.TheVariants.{Step}
use Rattle.linearization.specs.Examples.{small, nine_bases}
use Rattle.linearization.specs.Links.{link_of}
use Rattle.linearization.proofs.Listed.{UpTo-at}

abbrev places : List ℕ
places = 2 ∷ 3 ∷ 4 ∷ 5 ∷ 6 ∷ 7 ∷ 8 ∷ 9 ∷ 10 ∷ []

abbrev IsPlace : ℕ → Type 0
IsPlace place = (0 ≤ place) × (place ≤ 10) × Happens small nine_bases place ChangesTree

change : (place old new : ℕ) → place ≤ 10 → slice_get nine_bases place ≡ Some (Step 0 (Exchange 1 old new) (Whether true) None)
    → link_of (memory_at small nine_bases place) 1 old new ≡ Some link.Base → IsPlace place
change place old new le at is =
    (omega arith, le, record { entry = Step 0 (Exchange 1 old new) (Whether true) None; at = at; holds = (0, 1, old, new, link.Base, ((None, refl), is), (λ e. cc), (λ e. cc)) })

ascends : IsStrictlyIncreasing places
ascends k within = UpTo-at (λ k. slice_index places k < slice_index places (k + 1)) 7 (lit< tt, (lit< tt, (lit< tt, (lit< tt, (lit< tt, (lit< tt, (lit< tt, lit< tt))))))) k (omega (arith, within))

each : All IsPlace places
each = All-from_recursion IsPlace places (
  change 2 1 2 (lit≤ tt) refl refl,
  (
    change 3 2 1 (lit≤ tt) refl refl,
    (
      change 4 1 2 (lit≤ tt) refl refl,
      (
        change 5 2 1 (lit≤ tt) refl refl,
        (
          change 6 1 2 (lit≤ tt) refl refl,
          (
            change 7 2 1 (lit≤ tt) refl refl,
            (
              change 8 1 2 (lit≤ tt) refl refl,
              (
                change 9 2 1 (lit≤ tt) refl refl,
                (
                  change 10 1 2 (lit≤ tt) refl refl,
                  tt,
                ),
              ),
            ),
          ),
        ),
      ),
    ),
  ),
)

pub too_many : ¬ HasFewChanges small nine_bases
too_many h = let bound : 9 ≤ 8 = h.few 10 places (record { increasing = ascends; each = each }) in absurd (omega arith)
