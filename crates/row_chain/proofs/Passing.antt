-- Which of ascending items are left of a bound.
use Rattle.row_chain.proofs.Words.{◌≡◌, ◌<◌, ◌≤◌, ◌+◌, ◌-◌, ◌∷◌, ◌++◌, length, get_or, take, drop, true, sym, ap, subst, ◌∙◌, arith, not, AllByRecursion, is_lt, key_cmp, is_below, Item}
use Rattle.row_chain.proofs.Words.{AreItems, PlacedRecord, contents, is_left, PassesUpTo}
use Rattle.std.proofs.Common.{ℕ, List, [], Bool, false}
use Rattle.std.specs.Prelude.{IsTrue}
use Rattle.std.specs.declared.cmp.Ordering.TheVariants.{Less}
use Rattle.std.proofs.lemmas.List.{map-append, take-append-drop, take_more}
use Rattle.base_page.specs.Places.{IsAt, IsCut, IsGap}
use Rattle.base_page.proofs.ItemLaws.{all-append, all-weaker}
use Rattle.base_page.proofs.KeyLaws.{above, itself}
use Rattle.base_page.proofs.PlaceLaws.{above_place, below_place, IsCut-at, IsCut-gap}

not_above : (bound : List ℕ) (item : Item) → key_cmp item.key bound ≡ Less → IsTrue (not (is_below bound item.key))
not_above bound item less = ap (λ o. not (is_lt o)) (above item.key bound less)

past : (bound : List ℕ) (item : Item) → key_cmp bound item.key ≡ Less → not (is_below bound item.key) ≡ false
past bound item more = ap (λ o. not (is_lt o)) more

cut_passes : (items : List Item) (bound : List ℕ) (place : ℕ) → IsCut items bound place → PassesUpTo items (is_left true bound) place
cut_passes items bound place cut = record {
  within = cut.within;
  front = all-weaker _ _ (λ (item : Item) less. ap is_lt less) (take place items) cut.below;
  rest = cut.rest;
}

-- Where the bound is no item's key, the same items pass whether or not they have to be below it.
pub gap_passes : (items : List Item) (below : Bool) (bound : List ℕ) (place : ℕ) → IsGap items bound place → PassesUpTo items (is_left below bound) place
gap_passes items true bound place gap = cut_passes items bound place (IsCut-gap items bound place gap)
gap_passes items false bound place gap = record {
  within = gap.within;
  front = all-weaker _ _ (λ (item : Item) less. not_above bound item less) (take place items) gap.below;
  rest = all-weaker _ _ (λ (item : Item) more. past bound item more) (drop place items) gap.above;
}

-- where it is an item's key, that item passes too, unless it has to be below it
module _ (items : List Item) (are : AreItems items) (bound : List ℕ) (place : ℕ) (d : Item) (at : IsAt items bound place) where
  pub below_passes : (below : Bool) → below ≡ true → PassesUpTo items (is_left below bound) place
  below_passes true e = cut_passes items bound place (IsCut-at items are bound place d at)
  below_passes false e = cc

  upto : PassesUpTo items (is_left false bound) (place + 1)
  upto = record {
    within = let within = at.within in omega (arith, within);
    front = subst (AllByRecursion (λ (item : Item). IsTrue (is_left false bound item.key))) (sym (take_more items place d at.within))
        (all-append (λ (item : Item). IsTrue (is_left false bound item.key)) (take place items) (get_or items place d ∷ [])
        (all-weaker _ _ (λ (item : Item) less. not_above bound item less) (take place items) (below_place items are bound place d at))
        (rw (at.found d) (ap (λ o. not (is_lt o)) (itself bound)), tt));
    rest = all-weaker _ _ (λ (item : Item) more. past bound item more) (drop (place + 1) items) (above_place items are bound place d at);
  }

  pub at_passes : (below : Bool) → below ≡ false → PassesUpTo items (is_left below bound) (place + 1)
  at_passes true e = cc
  at_passes false e = upto

  pub at_before : IsAt items bound (place + 1 - 1)
  at_before = let same : place ≡ place + 1 - 1 = omega arith in subst (IsAt items bound) same at

-- the records before a place, with the one there, and those behind it
pub one_further : (rows : List PlacedRecord) (place : ℕ) (row : PlacedRecord) → place + 1 ≤ length rows → row ≡ get_or rows place row
    → contents (take (place + 1) rows) ≡ contents (take place rows) ++ row.content ∷ []
one_further rows place row within is =
    ap contents (take_more rows place row (omega (arith, within)) ∙ ap (λ (r : PlacedRecord). take place rows ++ r ∷ []) (sym is))
    ∙ map-append (λ (placed : PlacedRecord). placed.content) (take place rows) (row ∷ [])

pub parted : (rows : List PlacedRecord) (place : ℕ) → contents rows ≡ contents (take place rows) ++ contents (drop place rows)
parted rows place = ap contents (sym (take-append-drop place rows)) ∙ map-append (λ (placed : PlacedRecord). placed.content) (take place rows) (drop place rows)

-- the records of a row that stands alone
pub lone : (rows : List PlacedRecord) (row : PlacedRecord) → length rows ≤ 1 → 0 < length (contents rows) → row ≡ get_or rows 0 row → row.content ∷ [] ≡ contents rows
lone [] row few some is = absurd (omega (arith, some))
lone (one ∷ []) row few some is = ap (λ (r : PlacedRecord). r.content ∷ []) is
lone (one ∷ other ∷ rest) row few some is = absurd (omega (arith, few))
