-- Items whose neighbours are in order ascend.
use Rattle.std.proofs.Common.{◌≡◌, ℕ, zero, suc, ◌<◌, List, [], ◌∷◌, length, get_or, true, ap, arith}
use Rattle.std.specs.Ordering.{is_lt}
use Rattle.std.specs.declared.cmp.Ordering.TheVariants.{Less}
use Rattle.bw_model.specs.Bytes.{key_cmp, is_below}
use Rattle.base_page.specs.declared.item.Item.{Item}
use Rattle.base_page.specs.Pages.{IsAscending}
use Rattle.base_page.proofs.ItemLaws.{AllAbove, Ascends, Ascends-from, IsAscending-from, all-weaker}
use Rattle.base_page.proofs.KeyLaws.{below-trans, below_from}

-- up to the place, each item is below the next one
abbrev pub AreInOrder : List Item → ℕ → Type 0
AreInOrder items place = (k : ℕ) (d : Item) → suc k < place → is_below (get_or items k d).key (get_or items (suc k) d).key ≡ true

above_all : (a b : List ℕ) (items : List Item) → key_cmp a b ≡ Less → AllAbove b items → AllAbove a items
above_all a b items less all = all-weaker (λ (item : Item). key_cmp b item.key ≡ Less) (λ (item : Item). key_cmp a item.key ≡ Less) (λ item more. below-trans a b item.key less more) items all

ascends_in_order : (items : List Item) → AreInOrder items (length items) → Ascends items
ascends_in_order [] h = tt
ascends_in_order (x ∷ []) h = (tt, tt)
ascends_in_order (x ∷ y ∷ items) h =
    let rest = ascends_in_order (y ∷ items) (λ k d under. h (suc k) d (omega arith)) in
    let less = below_from x.key y.key (h 0 x (omega arith)) in
    ((less, above_all x.key y.key items less rest.0), rest)

pub IsAscending_in_order : (items : List Item) → AreInOrder items (length items) → IsAscending items
IsAscending_in_order items h = IsAscending-from items (ascends_in_order items h)

pub less_next : (items : List Item) (k : ℕ) (a b : Item) → IsAscending items → suc k < length items → a ≡ get_or items k a → b ≡ get_or items (suc k) b → is_below a.key b.key ≡ true
less_next items k a b ascending within is_a is_b = next items k a b (Ascends-from items ascending) within is_a is_b
  where
    next : (items : List Item) (k : ℕ) (a b : Item) → Ascends items → suc k < length items → a ≡ get_or items k a → b ≡ get_or items (suc k) b → is_below a.key b.key ≡ true
    next [] k a b h within is_a is_b = absurd (omega arith)
    next (x ∷ []) k a b h within is_a is_b = absurd (omega arith)
    next (x ∷ y ∷ items) zero a b h within is_a is_b = rw (is_a, is_b) (ap is_lt h.0.0)
    next (x ∷ y ∷ items) (suc k) a b h within is_a is_b = next (y ∷ items) k a b h.1 (omega arith) is_a is_b
