-- Which pages small index pages hold back.
use Rattle.std.proofs.Common.{codes, ◌≡◌, inl, inr, ℕ, List, [], true, false, Option, Some, refl, subst, arith}
use Rattle.std.specs.Prelude.{IsTrue, ◌≤◌, ◌⊎◌}
use Rattle.std.specs.List.Sorted.{IsStrictlySortedBy}
use Rattle.base_page.specs.declared.item.Content.{Content}
use Rattle.base_page.specs.declared.item.Content.TheVariants.{Child}
use Rattle.base_page.specs.declared.item.Item.{Item}
use Rattle.base_page.specs.Pages.{IsAscending}
use Rattle.base_page.specs.Rules.{held_count}
use Rattle.traces.specs.chain.Chains.{IsItemsOf}
use Rattle.traces.specs.chain.Examples.{four_held, index_of, one_held}
use Rattle.traces.specs.chain.HeldBack.{HoldsBack, begins_at, has_held_neighbour}
use Rattle.traces.proofs.FittedLaws.{items_unique}

one_ascends : IsAscending one_held
unfolding IsStrictlySortedBy
one_ascends = search

four_ascend : IsAscending four_held
unfolding IsStrictlySortedBy
four_ascend = search

of_base : (items : List Item) → IsAscending items → IsItemsOf (index_of items) items
of_base items ascending = record { ascending = ascending; contents = λ key. refl }

pub first : HoldsBack (index_of one_held) 1 []
first = record { held = false; there = refl; items = one_held; are = of_base one_held one_ascends; why = inl refl }

pub beside : HoldsBack (index_of one_held) 2 (codes "a")
beside = record { held = false; there = refl; items = one_held; are = of_base one_held one_ascends; why = inr (refl, inr refl) }

pub many : HoldsBack (index_of four_held) 10 (codes "i")
many = record { held = false; there = refl; items = four_held; are = of_base four_held four_ascend; why = inr (refl, inl (omega arith)) }

-- why the page of one held term holds a page back
reason : {page : ℕ} {low : List ℕ} (h : HoldsBack (index_of one_held) page low)
    → IsTrue (begins_at low one_held) ⊎ ((h.held ≡ false) × ((4 ≤ held_count one_held) ⊎ IsTrue (has_held_neighbour low one_held)))
reason {page} {low} h = rw (items_unique h.items one_held h.are.ascending one_ascends h.are.contents) at h.why

pub held : HoldsBack (index_of one_held) 3 (codes "b") → ⊥
held h = let why = reason h in elim why [
  | inl begins ↦ cc
  | inr free ↦ let there : ◌≡◌ {A = Option Content} (Some (Child 3 true)) (Some (Child 3 h.held)) = h.there in let clash = free.0 in cc
]

pub apart : HoldsBack (index_of one_held) 5 (codes "d") → ⊥
apart h = let why = reason h in elim why [
  | inl begins ↦ cc
  | inr free ↦ let more = free.1 in elim more [ inl four ↦ omega (arith, four) | inr neighbour ↦ cc ]
]

pub other : HoldsBack (index_of one_held) 3 (codes "a") → ⊥
other h = let there : ◌≡◌ {A = Option Content} (Some (Child 2 false)) (Some (Child 3 h.held)) = h.there in cc
