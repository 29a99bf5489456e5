-- What a bisection among ascending items has found so far.
use Rattle.std.proofs.Common.{◌≡◌, ◌<◌, ◌≤◌, ◌+◌, ℕ, List, length, get_or, drop, map, inl, inr, ap, arith}
use Rattle.row_search.proofs.Words.{AllWithin, is_eq, Less, Equal, Greater, cases_lt, key_cmp, Item, IsAscending, IsAt, IsGap}
use Rattle.std.proofs.lemmas.List.{get_or-map, length-map}
use Rattle.std.proofs.lemmas.Map.Keys.{Less-from_sorted}
use Rattle.base_page.proofs.KeyLaws.{above, below, below-trans, same}
use Rattle.base_page.proofs.ItemLaws.{all-weaker}
use Rattle.base_page.proofs.PlaceLaws.{within_take, within_drop}

sorted : (items : List Item) (i j : ℕ) (d : Item) → IsAscending items → i < j → j < length items → key_cmp (get_or items i d).key (get_or items j d).key ≡ Less
sorted items i j d asc lt within =
    let len : length (map (λ (item : Item). item.key) items) ≡ length items = length-map items (λ (item : Item). item.key) in
    let less = Less-from_sorted key_cmp (map (λ (item : Item). item.key) items) i j d.key asc lt (omega arith) in
    let left = get_or-map (λ (item : Item). item.key) items i d d.key (omega arith) in
    let right = get_or-map (λ (item : Item). item.key) items j d d.key within in
    rw (left, right) at less

module _ (items : List Item) (asc : IsAscending items) (key : List ℕ) (middle : ℕ) (within : middle < length items) where
  pub lower : ((d : Item) → key_cmp (get_or items middle d).key key ≡ Less) → AllWithin (λ item. key_cmp item.key key ≡ Less) items 0 (middle + 1)
  lower less k d low high = elim (cases_lt k middle) [
    | inl lt ↦ below-trans (get_or items k d).key (get_or items middle d).key key (sorted items k middle d asc lt within) (less d)
    | inr ge ↦ let e : middle ≡ k = omega arith in rw (← e) (less d)
  ]

  pub upper : ((d : Item) → key_cmp (get_or items middle d).key key ≡ Greater) → AllWithin (λ item. key_cmp item.key key ≡ Greater) items middle (length items)
  upper greater k d low high = elim (cases_lt middle k) [
    | inl lt ↦ above key (get_or items k d).key
        (below-trans key (get_or items middle d).key (get_or items k d).key (below (get_or items middle d).key key (greater d)) (sorted items middle k d asc lt high))
    | inr ge ↦ let e : middle ≡ k = omega arith in rw (← e) (greater d)
  ]

  pub found_at : ((d : Item) → key_cmp (get_or items middle d).key key ≡ Equal) → IsAt items key middle
  found_at equal = record { within = within; found = λ d. same (get_or items middle d).key key (ap is_eq (equal d)) }

pub gap_at : (items : List Item) (key : List ℕ) (place : ℕ) → place ≤ length items → AllWithin (λ item. key_cmp item.key key ≡ Less) items 0 place
    → AllWithin (λ item. key_cmp item.key key ≡ Greater) items place (length items) → IsGap items key place
gap_at items key place within low high = record {
  within = within;
  below = within_take (λ (item : Item). key_cmp item.key key ≡ Less) items place within low;
  above = all-weaker _ _ (λ (item : Item) h. below item.key key h) (drop place items) (within_drop (λ (item : Item). key_cmp item.key key ≡ Greater) items place high);
}
