-- The pairs of ascending items from a key on, or up to a key.
use Rattle.row_chain.proofs.Words.{◌≡◌, ◌∷◌, map, true, refl, sym, ap, ◌∙◌, if◌then◌else◌, not, AllByRecursion, is_eq, key_cmp, is_below, is_under, Content, Child, Item, Page}
use Rattle.row_chain.proofs.Words.{IsAscending, content_at, and_left, either, belongs, Record, high_in, low_in, Makes}
use Rattle.std.proofs.Common.{ℕ, List, [], Bool, false, Option, Some, None, IsTrue, Less}
use Rattle.std.specs.Prelude.{◌↔◌}
use Rattle.std.specs.List.{Contains}
use Rattle.std.specs.List.Sorted.{IsStrictlySortedBy}
use Rattle.std.specs.Map.{keys_of, lookup}
use Rattle.std.proofs.lemmas.Cmp.{eq_by_cmp_equiv, nat_list_cmp_total}
use Rattle.std.proofs.lemmas.Map.Keys.{IsDistinct-from_sorted}
use Rattle.std.proofs.lemmas.Map.Views.{Contains-from_lookup, lookup-from_Contains}
use Rattle.bw_model.specs.Bytes.{is_in_range}
use Rattle.bw_model.specs.NextKeys.{key_after}
use Rattle.bw_model.specs.Pairs.{ArePairsOf}
use Rattle.bw_model.proofs.NextKeyLaws.{after_is_above}
use Rattle.base_page.specs.declared.item.Content.TheVariants.{Value}
use Rattle.base_page.specs.Pages.{IsPage}
use Rattle.base_page.specs.Shown.{Pair, leaves_out, pairs_shown, with_pair_of}
use Rattle.base_page.specs.declared.page.shows.Direction.{Direction}
use Rattle.base_page.specs.declared.page.shows.Direction.TheVariants.{Forward, Backward}
use Rattle.base_page.proofs.ItemLaws.{Ascends, Ascends-from, lacks_above}
use Rattle.base_page.proofs.KeyLaws.{and_both, and_right, itself, same}
use Rattle.traces.specs.discipline.Discipline.{chain_value, value_of}

-- the keys ascend

all_shown : (P : List ℕ → Type 0) (below : Bool) (key : List ℕ) (content : Content) (pairs : List Pair) → P key → AllByRecursion P (map (λ (pair : Pair). pair.0) pairs)
    → AllByRecursion P (map (λ (pair : Pair). pair.0) (with_pair_of below key content pairs))
all_shown P true key (Value value) pairs p h = h
all_shown P false key (Value value) pairs p h = (p, h)
all_shown P below key (Child page held) pairs p h = h

all_among : (P : List ℕ → Type 0) (d : Direction) (bound : List ℕ) (items : List Item) → AllByRecursion (λ item. P item.key) items
    → AllByRecursion P (map (λ (pair : Pair). pair.0) (pairs_shown d bound items))
all_among P d bound [] h = tt
all_among P d bound (item ∷ items) h = all_shown P (leaves_out d bound item.key) item.key item.content (pairs_shown d bound items) h.0 (all_among P d bound items h.1)

shown_ascends : (out : Bool) (key : List ℕ) (content : Content) (pairs : List Pair) → AllByRecursion (λ other. key_cmp key other ≡ Less) (map (λ (pair : Pair). pair.0) pairs)
    → IsStrictlySortedBy key_cmp (map (λ (pair : Pair). pair.0) pairs) → IsStrictlySortedBy key_cmp (map (λ (pair : Pair). pair.0) (with_pair_of out key content pairs))
unfolding IsStrictlySortedBy
shown_ascends true key (Value value) pairs above h = h
shown_ascends false key (Value value) pairs above h = (above, h)
shown_ascends out key (Child page held) pairs above h = h

among_ascends : (d : Direction) (bound : List ℕ) (items : List Item) → Ascends items → IsStrictlySortedBy key_cmp (map (λ (pair : Pair). pair.0) (pairs_shown d bound items))
unfolding IsStrictlySortedBy
among_ascends d bound [] h = tt
among_ascends d bound (item ∷ items) h =
    shown_ascends (leaves_out d bound item.key) item.key item.content (pairs_shown d bound items)
    (all_among (λ other. key_cmp item.key other ≡ Less) d bound items h.0) (among_ascends d bound items h.1)

-- what they have at a key

abbrev pub value_among : List ℕ → List Pair → Option (List ℕ)
value_among q pairs = lookup (λ key. is_eq (key_cmp q key)) pairs

shown_here : (below : Bool) (key : List ℕ) (content : Content) (pairs : List Pair) → value_among key pairs ≡ None
    → value_among key (with_pair_of below key content pairs) ≡ (if not below then value_of (Some content) else None)
shown_here true key (Value value) pairs none = none
shown_here false key (Value value) pairs none = rw (itself key) refl
shown_here true key (Child page held) pairs none = none
shown_here false key (Child page held) pairs none = none

shown_other : (below : Bool) (key : List ℕ) (content : Content) (pairs : List Pair) (q : List ℕ) → is_eq (key_cmp q key) ≡ false
    → value_among q (with_pair_of below key content pairs) ≡ value_among q pairs
shown_other true key (Value value) pairs q other = refl
shown_other false key (Value value) pairs q other = rw other refl
shown_other below key (Child page held) pairs q other = refl

neither : (b : Bool) → ◌≡◌ {A = Option (List ℕ)} (if b then None else None) None
neither true = refl
neither false = refl

among_has : (d : Direction) (bound : List ℕ) (items : List Item) → Ascends items → (q : List ℕ)
    → value_among q (pairs_shown d bound items) ≡ (if not (leaves_out d bound q) then value_of (content_at items q) else None)
among_has d bound [] h q = sym (neither (not (leaves_out d bound q)))
among_has d bound (item ∷ items) h q = either (is_eq (key_cmp q item.key))
    (λ equal.
    let is : q ≡ item.key = same q item.key equal in
    let past : value_among item.key (pairs_shown d bound items) ≡ None = among_has d bound items h.1 item.key ∙ rw (lacks_above items item.key h.0) (neither (not (leaves_out d bound item.key))) in
    rw (is, itself item.key) (shown_here (leaves_out d bound item.key) item.key item.content (pairs_shown d bound items) past))
    (λ other. rw other (shown_other (leaves_out d bound item.key) item.key item.content (pairs_shown d bound items) q other ∙ among_has d bound items h.1 q))

there : (within : Bool) (value_at : Option (List ℕ)) (value : List ℕ) → (if within then value_at else None) ≡ Some value → IsTrue within × (value_at ≡ Some value)
there true value_at value h = (refl, h)
there false value_at value h = cc

inside : (within : Bool) (value_at : Option (List ℕ)) (value : List ℕ) → IsTrue within → value_at ≡ Some value → (if within then value_at else None) ≡ Some value
inside true value_at value t h = h
inside false value_at value t h = cc

-- they are the pairs of the items, but for those that are left out
pub record AreShown (d : Direction) (bound : List ℕ) (items : List Item) : Type 0 where
  pub ascending : IsStrictlySortedBy key_cmp (map (λ (pair : Pair). pair.0) (pairs_shown d bound items))
  pub exact : (key value : List ℕ) → Contains (pairs_shown d bound items) (key, value) ↔ IsTrue (not (leaves_out d bound key)) × (value_of (content_at items key) ≡ Some value)

pub are_shown : (d : Direction) (bound : List ℕ) (items : List Item) → IsAscending items → AreShown d bound items
are_shown d bound items ascending =
    let order = Ascends-from items ascending in
    let sorted = among_ascends d bound items order in
    record {
      ascending = sorted;
      exact = λ key value.
          let has = among_has d bound items order key in (
            (λ contains.
                let is : value_among key (pairs_shown d bound items) ≡ Some value = lookup-from_Contains (eq_by_cmp_equiv nat_list_cmp_total) key value
                (pairs_shown d bound items) (IsDistinct-from_sorted key_cmp (keys_of (pairs_shown d bound items)) sorted) contains in
                there (not (leaves_out d bound key)) (value_of (content_at items key)) value (sym has ∙ is)),
            (λ h. Contains-from_lookup same key value (pairs_shown d bound items)
                (has ∙ inside (not (leaves_out d bound key)) (value_of (content_at items key)) value h.0 h.1)),
          );
    }

-- each value of a page is in the page's range
value_within : (page : Page) → IsPage page → (key value : List ℕ) → value_of (content_at page.items key) ≡ Some value → IsTrue (is_in_range page.low page.high key)
value_within page is key value h = by (content_at page.items key) refl h
  where
    by : (o : Option Content) → content_at page.items key ≡ o → value_of o ≡ Some value → IsTrue (is_in_range page.low page.high key)
    by None e h = cc
    by (Some content) e h = (belongs page is key content e).within

-- from a key on: the pairs of the items, of the page, and of the chain that makes the page
pub are_pairs : (from : List ℕ) (items : List Item) → IsAscending items → ArePairsOf (λ key. value_of (content_at items key)) from None (pairs_shown Forward from items)
are_pairs from items ascending =
    let shown = are_shown Forward from items ascending in
    record {
      ascending = shown.ascending;
      exact = λ key value. (
        (λ contains. let h = (shown.exact key value).0 contains in (and_both (not (is_below key from)) true h.0 refl, h.1)),
        (λ h. (shown.exact key value).1 (and_left (not (is_below key from)) true h.0, h.1)),
      );
    }

pub pairs_in : (chain : List Record) (page : Page) (from : List ℕ) → Makes chain page → IsPage page → ArePairsOf (chain_value chain) from (high_in chain) (pairs_shown Forward from page.items)
pairs_in chain page from makes is =
    let shown = are_shown Forward from page.items is.ordered.ascending in
    record {
      ascending = shown.ascending;
      exact = λ key value.
          let same_value : value_of (content_at page.items key) ≡ chain_value chain key = ap value_of (makes.items.contents key) in (
            (λ contains.
                let h = (shown.exact key value).0 contains in
                let within : IsTrue (is_under key page.high) = and_right (not (is_below key page.low)) (is_under key page.high) (value_within page is key value h.1) in
                (and_both (not (is_below key from)) (is_under key (high_in chain)) h.0 (rw (← makes.high) within), sym same_value ∙ h.1)),
            (λ h. (shown.exact key value).1 (and_left (not (is_below key from)) (is_under key (high_in chain)) h.0, same_value ∙ h.1)),
          );
    }

-- up to a key: those of the chain that makes the page
pub pairs_upto : (chain : List Record) (page : Page) (upto : List ℕ) → Makes chain page → IsPage page
    → ArePairsOf (chain_value chain) (low_in chain) (Some (key_after upto)) (pairs_shown Backward upto page.items)
pairs_upto chain page upto makes is =
    let shown = are_shown Backward upto page.items is.ordered.ascending in
    record {
      ascending = shown.ascending;
      exact = λ key value.
          let same_value : value_of (content_at page.items key) ≡ chain_value chain key = ap value_of (makes.items.contents key) in (
            (λ contains.
                let h = (shown.exact key value).0 contains in
                let within : IsTrue (not (is_below key page.low)) = and_left (not (is_below key page.low)) (is_under key page.high) (value_within page is key value h.1) in (
                  and_both (not (is_below key (low_in chain))) (is_below key (key_after upto))
                      (rw (← makes.low) within) (after_is_above upto key ∙ h.0),
                  sym same_value ∙ h.1,
                )),
            (λ h. (shown.exact key value).1
                (sym (after_is_above upto key) ∙ and_right (not (is_below key (low_in chain))) (is_below key (key_after upto)) h.0, same_value ∙ h.1)),
          );
    }
