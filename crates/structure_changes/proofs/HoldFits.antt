-- A hold fits its page: a term that is held beside unheld ones breaks no rule.
use Rattle.std.proofs.Common.{◌≡◌, ◌≢◌, ◌⊎◌, inl, inr, ◌-◌, get_or, ◌<◌, ◌≤◌, ◌+◌, ℕ, suc, List, [], ◌∷◌, length, true, false, Some, None, refl, sym, ap, ◌∙◌, arith}
use Rattle.std.specs.Prelude.{IsTrue, ⊤}
use Rattle.structure_changes.proofs.Words.{Less, Equal, eqb_tells, All-from_recursion, at_read, recursion_from_All, same_Some, key_cmp, is_in_range, Child, Item, Page, content_at}
use Rattle.structure_changes.proofs.Words.{IsAscending, IsOfLevel, AreApart, IsFirstAt, IsRuled, held_count, is_held, Record, Hold, IsSpellable, is_removed, low_in, FitsOver, Makes}
use Rattle.structure_changes.proofs.Words.{ascends_after, by_order, fits_over, lacks_first, Version}
use Rattle.deltas.specs.declared.record.Record.TheVariants as kind
use Rattle.deltas.specs.Fits.{FitsHold}
use Rattle.traces.proofs.Updated.{all_put, greater, itself, put_ascends, put_contents, put_few, with_put}
use Rattle.structure_changes.specs.Holds.{CanHold, HasFreeNeighbours, IsFreeBeside, IsHoldPlan, hold_of}
use Rattle.structure_changes.proofs.Places.{above_low, index_at, inside, links, of_made}

-- Where the key is, the neighbours aren't held.
AreFree : List ℕ → List Item → Type 0
AreFree key [] = ⊤
AreFree key (item ∷ []) = ⊤
AreFree key (item ∷ next ∷ items) = (item.key ≡ key → is_held next.content ≡ false) × (next.key ≡ key → is_held item.content ≡ false) × AreFree key (next ∷ items)

module _ (key : List ℕ) (child : ℕ) where
  abbrev held_item : Item
  held_item = record { key = key; content = Child child true }

  abbrev Unheld : List Item → Type 0
  Unheld items = content_at items key ≡ Some (Child child false)

  held_put : (items : List Item) → IsAscending items → Unheld items → held_count (with_put held_item items) ≡ held_count items + 1
  held_put [] ascending there = cc
  held_put (item ∷ items) ascending there = by_order key item.key
      (λ less. absurd (let none = lacks_first item items key ascending less in cc))
      (λ same.
      let is : Some item.content ≡ Some (Child child false) = rw (same, itself item.key) at there in
      let unheld : is_held item.content ≡ false = ap is_held (same_Some _ _ is) in
      rw (same, itself item.key, unheld) (omega arith))
      (λ more.
      let above = greater key item.key more in
      let rest = held_put items (ascends_after item items ascending) (rw above at there) in
      rw (above, rest) (omega arith))

  -- a held term instead of an unheld one whose neighbours aren't held
  apart_put : (items : List Item) → IsAscending items → Unheld items → AreFree key items → AreApart items → AreApart (with_put held_item items)
  unfolding AreFree
  apart_put [] ascending there free apart = tt
  apart_put (item ∷ []) ascending there free apart = by_order key item.key
      (λ less. absurd (let none = lacks_first item [] key ascending less in cc))
      (λ same. rw (same, itself item.key) tt)
      (λ more. let above = greater key item.key more in absurd (let none : None ≡ Some (Child child false) = rw above at there in cc))
  apart_put (item ∷ next ∷ items) ascending there free apart = by_order key item.key
      (λ less. absurd (let none = lacks_first item (next ∷ items) key ascending less in cc))
      (λ same. rw (same, itself item.key) ((λ held. free.0 (sym same)), apart.1))
      (λ more.
      let above = greater key item.key more in
      let later : Unheld (next ∷ items) = rw above at there in
      rw above (by_next later (apart_put (next ∷ items) (ascends_after item (next ∷ items) ascending) later free.2 apart.1)))
    where
      by_next : Unheld (next ∷ items) → AreApart (with_put held_item (next ∷ items)) → AreApart (item ∷ with_put held_item (next ∷ items))
      by_next later rest = by_order key next.key
          (λ less. absurd (let none = lacks_first next items key (ascends_after item (next ∷ items) ascending) less in cc))
          (λ same.
          let is : key_cmp key next.key ≡ Equal = rw same (itself next.key) in
          rw is ((λ held. absurd (let no = free.1 (sym same) in cc)), rw is at rest))
          (λ more. let over = greater key next.key more in rw over (apart.0, rw over at rest))

  first_put : (low : List ℕ) (items : List Item) → key_cmp low key ≡ Less → IsFirstAt low items → IsFirstAt low (with_put held_item items)
  first_put low [] above first = absurd first
  first_put low (item ∷ items) above first =
      let more : key_cmp item.key key ≡ Less = rw first.0 above in
      let over = greater key item.key more in
      rw over first

-- an unheld term that isn't the first is held, where fewer than 4 are and its neighbours aren't
hold_fits : (chain : List Record) (page : Page) (hold : Hold) → Makes chain page → IsRuled page → IsSpellable (kind.Hold hold) → FitsHold page hold
    → key_cmp page.low hold.separator ≡ Less → IsTrue (is_in_range page.low page.high hold.separator) → held_count page.items < 4
    → AreFree hold.separator page.items → FitsOver chain (kind.Hold hold)
hold_fits chain page hold makes rules spellable fit above covered few free =
    let key = hold.separator in
    let new : Item = record { key = key; content = Child hold.child true } in
    let items = with_put new page.items in
    let are = rules.is_page.ordered in
    let in_range = λ (item : Item). IsTrue (is_in_range page.low page.high item.key) in
    let of_level = λ (item : Item). IsOfLevel page.level item.content in
    let ascending : IsAscending items = put_ascends new page.items are.ascending in
    fits_over chain (kind.Hold hold) page (record page { items = items }) refl spellable makes fit
    (record { ascending = ascending; contents = put_contents new page.items; level = refl; low = refl; high = refl; right = refl; removed = refl })
    (record {
      is_page = record {
        spans = rules.is_page.spans;
        ordered = record { few = put_few new page.items 24 are.ascending are.few (λ e. absurd (let there = fit.there in cc)); ascending = ascending };
        within = All-from_recursion in_range items (all_put in_range new page.items covered (recursion_from_All in_range page.items rules.is_page.within));
        kinds = All-from_recursion of_level items (all_put of_level new page.items (index_at page rules key hold.child false fit.there) (recursion_from_All of_level page.items rules.is_page.kinds));
      };
      ends = rules.ends;
      top = rules.top;
      terms = λ index.
          let terms = rules.terms index in
          record {
            first = first_put key hold.child page.low page.items above terms.first;
            few = (let one = held_put key hold.child page.items are.ascending fit.there in omega (arith, one, few));
            apart = apart_put key hold.child page.items are.ascending fit.there free terms.apart;
          };
    })

-- a test of two items, and of their places
module _ (key : List ℕ) (items : List Item) (i j : ℕ) (one other : Item) (within : i < length items) (inside : j < length items)
    (is_one : one ≡ get_or items i one) (is_other : other ≡ get_or items j other) where
  free_at : (one.key ≡ key → is_held other.content ≡ false) → IsFreeBeside key items i j
  free_at free at = at_read items (λ (item : Item). is_held item.content ≡ false) j other inside is_other (free (rw is_one (at one)))

  at_free : IsFreeBeside key items i j → one.key ≡ key → is_held other.content ≡ false
  at_free free same = rw is_other (free (at_read items (λ (item : Item). item.key ≡ key) i one within is_one same) other)

below_or : (n m : ℕ) → n < m + 1 → (n < m) ⊎ (n ≡ m)
below_or n m lt = elim (eqb_tells n m) [
  | inl same ↦ inr same.1
  | inr other ↦ (let ne = other.1 in inl (omega (arith, lt, ne)))
]

-- the items before a place and at it
module _ (key : List ℕ) (items : List Item) (place : ℕ) (one other : Item) (some : 1 ≤ place) (within : place < length items)
    (is_one : one ≡ get_or items (place - 1) one) (is_other : other ≡ get_or items place other) where
  abbrev AreFreeAt : ℕ → ℕ → Type 0
  AreFreeAt n m = IsFreeBeside key items n m × IsFreeBeside key items m n

  next_is : suc (place - 1) ≡ place
  next_is = omega (arith, some)

  pub free_there : HasFreeNeighbours key items → (one.key ≡ key → is_held other.content ≡ false) × (other.key ≡ key → is_held one.content ≡ false)
  free_there free =
      let both = rw next_is at (free (place - 1) (omega (arith, some, within))) in (
        at_free key items (place - 1) place one other (omega (arith, within)) within is_one is_other both.0,
        at_free key items place (place - 1) other one within (omega (arith, within)) is_other is_one both.1,
      )

  pub free_so_far : ((n : ℕ) → suc n < place → AreFreeAt n (suc n)) → (one.key ≡ key → is_held other.content ≡ false)
      → (other.key ≡ key → is_held one.content ≡ false) → (n : ℕ) → suc n < place + 1 → AreFreeAt n (suc n)
  free_so_far before free back n lt = elim (below_or (suc n) place lt) [
    | inl below ↦ before n below
    | inr is ↦
        let here : AreFreeAt (place - 1) place = (
          free_at key items (place - 1) place one other (omega (arith, within)) within is_one is_other free,
          free_at key
              items place (place - 1) other one within (omega (arith, within)) is_other is_one back,
        ) in
        let first : place - 1 ≡ n = omega (arith, is) in
        rw is (rw (← first) here)
  ]

from_places : (key : List ℕ) (items : List Item) → HasFreeNeighbours key items → AreFree key items
unfolding AreFree
from_places key [] h = tt
from_places key (item ∷ []) h = tt
from_places key (item ∷ next ∷ items) h = (
  (λ e. (h 0 (omega arith)).0 (λ d. e) item),
  (λ e. (h 0 (omega arith)).1 (λ d. e) item),
  from_places key (next ∷ items) (λ place lt. h (suc place) (omega (arith, lt))),
)

-- the plan of a hold is one that may be linked
pub planned : (parent page : Version) (made : Page) (hold : Hold) → is_removed parent.chain ≡ false → Makes parent.chain made → IsRuled made
    → hold ≡ hold_of parent page → CanHold parent page → IsHoldPlan parent page hold
planned parent page made hold stands makes rules is can =
    let key = low_in page.chain in
    let there : content_at made.items key ≡ Some (Child page.pid false) = makes.items.contents key ∙ can.there in
    let index = index_at made rules key page.pid false there in
    let covered = inside made rules key (Child page.pid false) there in
    let inner : key ≢ made.low = λ same. can.inner (same ∙ makes.low) in
    let above = above_low made key covered inner in
    let fit : FitsHold made (hold_of parent page) = record { alive = makes.removed ∙ stands; level = makes.level; there = there } in
    let few = of_made parent.chain made (λ items. held_count items < 4) makes can.few in
    let free = from_places key made.items (of_made parent.chain made (HasFreeNeighbours key) makes can.free) in
    record {
      can = can;
      is = is;
      fits =
          rw is (
            hold_fits parent.chain made (hold_of parent page) makes rules (rw (← makes.level) index, links parent page made makes rules above) fit above
                covered few free,
            (let short = can.short in omega (arith, short)),
          );
    }
