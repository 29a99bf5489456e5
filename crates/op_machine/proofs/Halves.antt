-- A split leaves 7 items at least on each side: of two neighbours one isn't held, so its place is at most one off the middle.
use Rattle.std.proofs.Common.{◌≡◌, ◌<◌, ◌≤◌, ◌+◌, ◌-◌, ◌/◌, ℕ, zero, suc, List, [], ◌∷◌, length, false, refl, sym, ap, ◌∙◌, inl, inr, arith, length-drop}
use Rattle.op_machine.proofs.Words.{slice_index_or, Child, Item, IsFitted, AreHalves, SplitPlan, Version, made, of_made}
use Rattle.std.proofs.lemmas.Bool.{cases_Bool}
use Rattle.base_page.specs.Rules.{AreApart, is_held}
use Rattle.traces.proofs.FittedLaws.{items_unique, ruled}
use Rattle.structure_changes.specs.Splits.{IsSplitPlace, IsSplitPlan}
use Rattle.structure_changes.proofs.SplitFits.{apart, next_place}

-- an item that there is is the same one by whatever stands for those that aren't
at_any : (items : List Item) (n : ℕ) (d e : Item) → n < length items → slice_index_or items n d ≡ slice_index_or items n e
at_any [] n d e lt = absurd (omega arith)
at_any (item ∷ items) zero d e lt = refl
at_any (item ∷ items) (suc n) d e lt = at_any items n d e (omega (arith, lt))

module _ (items : List Item) (ordered : AreApart items) (many : 16 ≤ length items) (place : ℕ) (is : IsSplitPlace items place) where
  -- the middle item is held or it isn't
  pub near_middle : (length items / 2 ≤ place + 1) × (place ≤ length items / 2 + 1)
  near_middle = elim (cases_Bool (is_held (slice_index_or items (length items / 2) blank).content)) [
    | inr unheld ↦
        let near = is.nearest (length items / 2) inside (λ d. ap (λ (item : Item). is_held item.content) (at_any items (length items / 2) d blank inside) ∙ unheld) in
        (omega (arith, near), omega (arith, near))
    | inl held ↦
        let next = next_place items ordered many (λ d. ap (λ (item : Item). is_held item.content) (at_any items (length items / 2) d blank inside) ∙ held) in
        let near = is.nearest (length items / 2 + 1) next.inside next.unheld in
        (omega (arith, near), omega (arith, near))
  ]
    where
      inside : length items / 2 < length items
      inside = omega (arith, many)

      blank : Item
      blank = record { key = []; content = Child 0 false }

  pub sides : (7 ≤ place) × (7 + place ≤ length items)
  sides = let near = near_middle in (omega (arith, near.0, near.1, many), omega (arith, near.0, near.1, many))

-- each of both pages of a split that is planned over a fitted chain has 7 items at least
pub halves : (page : Version) (plan : SplitPlan) → IsSplitPlan page plan → IsFitted page.chain → AreHalves page.chain plan.upper.items
halves page plan is fitted =
    let whole = made page.chain fitted in
    let rules = ruled page.chain whole.0 fitted whole.1 in
    let same : is.items ≡ whole.0.items = items_unique is.items whole.0.items is.has.ascending whole.1.items.ascending (λ key. is.has.contents key ∙ sym (whole.1.items.contents key)) in
    let ordered : AreApart is.items = rw same (apart whole.0 rules) in
    let many : 16 ≤ length is.items = rw same (of_made page.chain whole.0 (λ items. 16 ≤ length items) whole.1 is.can.wide) in
    let side = sides is.items ordered many is.place is.is_place in
    let upper : length plan.upper.items ≡ length is.items - is.place = ap length is.is_upper ∙ length-drop is.place is.items in
    record {
      upper = omega (arith, side.0, side.1, upper);
      lower = λ items has.
          let alike : length items ≡ length is.items = ap length (items_unique items is.items has.ascending is.has.ascending (λ key. has.contents key ∙ sym (is.has.contents key))) in
          omega (arith, side.0, side.1, upper, alike);
    }
