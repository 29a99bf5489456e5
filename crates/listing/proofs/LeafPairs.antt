-- The pairs of a leaf: in the order of their keys, in the leaf's range, and what its chain decides.
use Rattle.listing.proofs.Words.{◌≡◌, ℕ, List, [], ◌∷◌, true, false, Option, Some, None, refl, sym, ap, ◌∙◌, arith, AllByRecursion, Contains, key_cmp}
use Rattle.listing.proofs.Words.{Value, all-weaker, Record, content_in, high_in, low_in, Covers, IsUnder, pairs_of}
use Rattle.std.proofs.Common.{map, Bool}
use Rattle.std.specs.Prelude.{if◌then◌else◌, ◌↔◌}
use Rattle.std.specs.List.Sorted.{IsStrictlySortedBy}
use Rattle.std.specs.Map.{lookup}
use Rattle.std.specs.Ordering.{eq_by_cmp, is_eq}
use Rattle.std.proofs.lemmas.Cmp.{eq_by_cmp_equiv, nat_list_cmp_total}
use Rattle.std.proofs.lemmas.List.Elements.{recursion_from_All}
use Rattle.std.proofs.lemmas.Map.Keys.{IsDistinct-from_sorted}
use Rattle.std.proofs.lemmas.Map.Lookups.{exact_bytes}
use Rattle.std.proofs.lemmas.Map.Views.{Contains-from_lookup, lookup-from_Contains, tells_apart}
use Rattle.base_page.specs.declared.item.Content.{Content}
use Rattle.base_page.specs.declared.item.Content.TheVariants.{Child}
use Rattle.base_page.specs.declared.item.Item.{Item}
use Rattle.base_page.specs.Pages.{IsOfLevel, content_at, value_in}
use Rattle.traces.specs.chain.Chains.{level_in}
use Rattle.tree_law.proofs.shape.KeyOrder.{covers_from}
use Rattle.listing.specs.Listed.{HasPage, with_pair}

abbrev AreValues : List Item → Type 0
AreValues items = AllByRecursion (λ item. IsOfLevel 0 item.content) items

-- a leaf's pairs have the keys of its items
same_keys : (items : List Item) → AreValues items → map (λ pair. pair.0) (pairs_of items) ≡ map (λ item. item.key) items
same_keys [] are = refl
same_keys (item ∷ items) are = go item.content are.0 (same_keys items are.1)
  where
    go : (content : Content) → IsOfLevel 0 content → map (λ pair. pair.0) (pairs_of items) ≡ map (λ item. item.key) items
        → map (λ pair. pair.0) (with_pair item.key content (pairs_of items)) ≡ item.key ∷ map (λ item. item.key) items
    go (Value value) is rest = rw rest
    go (Child page held) is rest = absurd (omega (arith, is))

-- at each key they have what the items have there
same_values : (items : List Item) → AreValues items → (key : List ℕ) → lookup (eq_by_cmp key_cmp key) (pairs_of items) ≡ value_in (content_at items key)
same_values [] are key = refl
same_values (item ∷ items) are key = go item.content are.0 (same_values items are.1 key) (is_eq (key_cmp key item.key)) refl
  where
    go : (content : Content) → IsOfLevel 0 content → lookup (eq_by_cmp key_cmp key) (pairs_of items) ≡ value_in (content_at items key) → (same : Bool) → is_eq (key_cmp key item.key) ≡ same
        → lookup (eq_by_cmp key_cmp key) (with_pair item.key content (pairs_of items)) ≡ value_in (if is_eq (key_cmp key item.key) then Some content else content_at items key)
    go (Value value) is rest true same = rw same refl
    go (Value value) is rest false same = rw same rest
    go (Child page held) is rest same e = absurd (omega (arith, is))

-- what is so of each item's key is so of each pair's
of_keys : (P : List ℕ → Type 0) (items : List Item) → AreValues items → AllByRecursion (λ item. P item.key) items → AllByRecursion (λ pair. P pair.0) (pairs_of items)
of_keys P [] are each = tt
of_keys P (item ∷ items) are each = go item.content are.0 (of_keys P items are.1 each.1)
  where
    go : (content : Content) → IsOfLevel 0 content → AllByRecursion (λ pair. P pair.0) (pairs_of items) → AllByRecursion (λ pair. P pair.0) (with_pair item.key content (pairs_of items))
    go (Value value) is rest = (each.0, rest)
    go (Child page held) is rest = absurd (omega (arith, is))

value_is : (content : Option Content) (value : List ℕ) → value_in content ≡ Some value → content ≡ Some (Value value)
value_is None value e = cc
value_is (Some (Value other)) value e = let same : other ≡ value = cc in ap (λ v. Some (Value v)) same
value_is (Some (Child page held)) value e = cc

-- a leaf's pairs are in the order of their keys, and are the values that its chain decides
module _ (chain : List Record) (leaf : level_in chain ≡ 0) (pairs : List (List ℕ × List ℕ)) (has : HasPage chain pairs) where
  values : AreValues has.page.items
  values = rw (← (has.makes.level ∙ leaf)) (recursion_from_All _ has.page.items has.ruled.is_page.kinds)

  pub ascending : IsStrictlySortedBy key_cmp (map (λ pair. pair.0) pairs)
  ascending = rw (has.are, same_keys has.page.items values) has.makes.items.ascending

  decided : (key : List ℕ) → lookup (eq_by_cmp key_cmp key) pairs ≡ value_in (content_in chain key)
  decided key = rw has.are (same_values has.page.items values key) ∙ ap value_in (has.makes.items.contents key)

  pub exact : (key value : List ℕ) → Contains pairs (key, value) ↔ (content_in chain key ≡ Some (Value value))
  exact key value = (
    (λ among. value_is (content_in chain key) value
        (sym (decided key) ∙ lookup-from_Contains (eq_by_cmp_equiv nat_list_cmp_total) key value pairs (IsDistinct-from_sorted key_cmp (map (λ pair. pair.0) pairs) ascending) among)),
    (λ says. Contains-from_lookup (tells_apart exact_bytes) key value pairs (decided key ∙ ap value_in says)),
  )

  pub inside : AllByRecursion (λ pair. Covers chain pair.0) pairs
  inside = rw has.are (of_keys (Covers chain) has.page.items values
      (all-weaker _ (λ (item : Item). Covers chain item.key) (λ item within. covers_from chain item.key (rw (← has.makes.low, ← has.makes.high) within))
      has.page.items (recursion_from_All _ has.page.items has.ruled.is_page.within)))

  -- the page's low key is below its end
  pub spans : IsUnder (low_in chain) (high_in chain)
  spans = rw (← has.makes.low, ← has.makes.high) has.ruled.is_page.spans
