-- Ordered items in which one key changes; so an update that fits makes a page that keeps the rules.
use Rattle.std.proofs.Common.{◌≡◌, ◌<◌, ◌≤◌, ◌-◌, ℕ, List, [], ◌∷◌, map, length, Bool, true, false, Option, Some, None, refl, ap, ◌∙◌, arith}
use Rattle.std.specs.Prelude.{if◌then◌else◌, IsTrue}
use Rattle.std.specs.List.{AllByRecursion}
use Rattle.std.specs.List.Sorted.{IsStrictlySortedBy}
use Rattle.std.specs.Ordering.{is_eq, ordering_reverse}
use Rattle.std.specs.declared.cmp.Ordering.{Ordering}
use Rattle.std.specs.declared.cmp.Ordering.TheVariants.{Less, Equal, Greater}
use Rattle.std.proofs.lemmas.Cmp.{nat_list_cmp_total}
use Rattle.std.proofs.lemmas.List.Elements.{All-from_recursion, recursion_from_All}
use Rattle.bw_model.specs.Bytes.{key_cmp, is_in_range}
use Rattle.base_page.specs.declared.item.Content.{Content}
use Rattle.base_page.specs.declared.item.Content.TheVariants.{Value}
use Rattle.base_page.specs.declared.item.Item.{Item}
use Rattle.base_page.specs.Pages.{Page, content_at, AreItems, IsAscending, IsOfLevel}
use Rattle.base_page.specs.Rules.{IsRuled}
pub use Rattle.base_page.proofs.KeyLaws.{itself}
use Rattle.deltas.specs.declared.record.Put.{Put}
use Rattle.deltas.specs.declared.record.Delete.{Delete}
use Rattle.deltas.specs.declared.record.Record.{Record}
use Rattle.deltas.specs.declared.record.Record.TheVariants as kind
use Rattle.deltas.specs.Spellable.{IsRow}
use Rattle.deltas.specs.Fits.{FitsPut, FitsDelete}
use Rattle.traces.specs.chain.Fitted.{FitsOver, Makes}
use Rattle.traces.proofs.FittedLaws.{by_order, all_below, ascends_after, fits_over, lacks_first}

pub greater : (a b : List ℕ) → key_cmp b a ≡ Less → key_cmp a b ≡ Greater
greater a b less = nat_list_cmp_total.antisymm a b ∙ ap ordering_reverse less

-- what holds of the keys of items
keys_from : (P : List ℕ → Type 0) (items : List Item) → AllByRecursion (λ item. P item.key) items → AllByRecursion P (map (λ (item : Item). item.key) items)
keys_from P [] h = tt
keys_from P (item ∷ items) h = (h.0, keys_from P items h.1)

from_keys : (P : List ℕ → Type 0) (items : List Item) → AllByRecursion P (map (λ (item : Item). item.key) items) → AllByRecursion (λ item. P item.key) items
from_keys P [] h = tt
from_keys P (item ∷ items) h = (h.0, from_keys P items h.1)

-- what is said of one key, before and after an item

twice : {X : Type 0} (b : Bool) (x y z : X) → (if b then x else z) ≡ (if b then x else (if b then y else z))
twice true x y z = refl
twice false x y z = refl

past_other : (key : List ℕ) (said : Option Content) (item : Item) (items new : List Item) (q : List ℕ) → is_eq (key_cmp item.key key) ≡ false
    → content_at new q ≡ (if is_eq (key_cmp q key) then said else content_at items q)
    → content_at (item ∷ new) q ≡ (if is_eq (key_cmp q key) then said else content_at (item ∷ items) q)
past_other key said item items new q other h = by_order q item.key
    (λ less. rw less h)
    (λ is. rw (is, itself item.key, other) refl)
    (λ more. rw (greater q item.key more) h)

-- one item put at its key

-- The new item beside the first one, as their keys compare; the rest has it already.
abbrev pub put_beside : Ordering → Item → Item → List Item → List Item → List Item
put_beside Less new item items rest = new ∷ item ∷ items
put_beside Equal new item items rest = new ∷ items
put_beside Greater new item items rest = item ∷ rest

-- the items with the new one before the first greater key, in the place of an equal one
abbrev pub with_put : Item → List Item → List Item
with_put new [] = new ∷ []
with_put new (item ∷ items) = put_beside (key_cmp new.key item.key) new item items (with_put new items)

pub all_put : (P : Item → Type 0) (new : Item) (items : List Item) → P new → AllByRecursion P items → AllByRecursion P (with_put new items)
all_put P new [] p h = (p, tt)
all_put P new (item ∷ items) p h = beside (key_cmp new.key item.key) (all_put P new items p h.1)
  where
    beside : (o : Ordering) → AllByRecursion P (with_put new items) → AllByRecursion P (put_beside o new item items (with_put new items))
    beside Less rest = (p, h)
    beside Equal rest = (p, h.1)
    beside Greater rest = (h.0, rest)

pub put_ascends : (new : Item) (items : List Item) → IsAscending items → IsAscending (with_put new items)
unfolding IsStrictlySortedBy
put_ascends new [] h = (tt, tt)
put_ascends new (item ∷ items) h = by_order new.key item.key
    (λ less. rw less ((less, all_below new.key item.key (map (λ (item : Item). item.key) items) less h.0), h))
    (λ same. rw (same, itself item.key) h)
    (λ more.
    let above = λ (key : List ℕ). key_cmp item.key key ≡ Less in
    let kept = all_put (λ (other : Item). above other.key) new items more (from_keys above items h.0) in
    rw (greater new.key item.key more) (keys_from above (with_put new items) kept, put_ascends new items h.1))

pub put_contents : (new : Item) (items : List Item) (q : List ℕ) → content_at (with_put new items) q ≡ (if is_eq (key_cmp q new.key) then Some new.content else content_at items q)
put_contents new [] q = refl
put_contents new (item ∷ items) q = by_order new.key item.key
    (λ less. rw less refl)
    (λ same. rw (same, itself item.key) (twice (is_eq (key_cmp q item.key)) (Some new.content) (Some item.content) (content_at items q)))
    (λ more. rw (greater new.key item.key more) (past_other new.key (Some new.content) item items (with_put new items) q (ap is_eq more) (put_contents new items q)))

-- there are no more than the bound, if there is room for an item with a new key
pub put_few : (new : Item) (items : List Item) (bound : ℕ) → IsAscending items → length items ≤ bound → (content_at items new.key ≡ None → length items < bound) → length (with_put new items) ≤ bound
put_few new [] bound ascending few room = omega (arith, room refl)
put_few new (item ∷ items) bound ascending few room = by_order new.key item.key
    (λ less. rw less (omega (arith, room (lacks_first item items new.key ascending less))))
    (λ same. rw (same, itself item.key) few)
    (λ more.
    let above = greater new.key item.key more in
    let rest = put_few new items (bound - 1) (ascends_after item items ascending) (omega (arith, few)) (λ absent. omega (arith, room (rw above absent))) in
    rw above (omega (arith, few, rest)))

-- the item of one key taken away

abbrev pub without : List ℕ → List Item → List Item
without key [] = []
without key (item ∷ items) = if is_eq (key_cmp key item.key) then without key items else item ∷ without key items

-- what holds with the first item and without it
pub chosen : {X : Type 0} (P : X → Type 0) (b : Bool) (x y : X) → P x → P y → P (if b then x else y)
chosen P true x y p q = p
chosen P false x y p q = q

pub all_without : (P : Item → Type 0) (key : List ℕ) (items : List Item) → AllByRecursion P items → AllByRecursion P (without key items)
all_without P key [] h = tt
all_without P key (item ∷ items) h =
    let rest = all_without P key items h.1 in
    chosen (AllByRecursion P) (is_eq (key_cmp key item.key)) (without key items) (item ∷ without key items) rest (h.0, rest)

pub without_ascends : (key : List ℕ) (items : List Item) → IsAscending items → IsAscending (without key items)
unfolding IsStrictlySortedBy
without_ascends key [] h = tt
without_ascends key (item ∷ items) h =
    let above = λ (other : List ℕ). key_cmp item.key other ≡ Less in
    let kept = all_without (λ (other : Item). above other.key) key items (from_keys above items h.0) in
    let rest = without_ascends key items h.1 in
    chosen IsAscending (is_eq (key_cmp key item.key)) (without key items) (item ∷ without key items) rest (keys_from above (without key items) kept, rest)

pub without_contents : (key : List ℕ) (items : List Item) (q : List ℕ) → content_at (without key items) q ≡ (if is_eq (key_cmp q key) then None else content_at items q)
without_contents key [] q = by_order q key (λ less. rw less refl) (λ is. rw (is, itself key) refl) (λ more. rw (greater q key more) refl)
without_contents key (item ∷ items) q = by_order key item.key
    (λ less. rw less (past_other key None item items (without key items) q (ap is_eq (greater item.key key less)) (without_contents key items q)))
    (λ same. rw (← same, itself key) (without_contents key items q ∙ twice (is_eq (key_cmp q key)) None (Some item.content) (content_at items q)))
    (λ more. rw (greater key item.key more) (past_other key None item items (without key items) q (ap is_eq more) (without_contents key items q)))

pub without_few : (key : List ℕ) (items : List Item) → length (without key items) ≤ length items
without_few key [] = omega arith
without_few key (item ∷ items) =
    let rest = without_few key items in
    chosen (λ (left : List Item). length left ≤ length (item ∷ items)) (is_eq (key_cmp key item.key)) (without key items) (item ∷ without key items) (omega (arith, rest)) (omega (arith, rest))

-- updates that fit

-- a leaf with other items keeps the rules of a page, where the items are few, in order, in the range and values
ruled_leaf : (page : Page) (items : List Item) → IsRuled page → page.level ≡ 0 → AreItems items
    → AllByRecursion (λ item. IsTrue (is_in_range page.low page.high item.key)) items
    → AllByRecursion (λ item. IsOfLevel page.level item.content) items
    → IsRuled (record page { items = items })
ruled_leaf page items rules leaf are within kinds = record {
  is_page = record {
    spans = rules.is_page.spans;
    ordered = are;
    within = All-from_recursion (λ (item : Item). IsTrue (is_in_range page.low page.high item.key)) items within;
    kinds = All-from_recursion (λ (item : Item). IsOfLevel page.level item.content) items kinds;
  };
  ends = rules.ends;
  top = rules.top;
  terms = λ index. absurd (omega (arith, leaf, index));
}

pub put_fits : (chain : List Record) (page : Page) (put : Put) → Makes chain page → IsRuled page → IsRow put.next → FitsPut page put → FitsOver chain (kind.Put put)
put_fits chain page put makes rules next fit =
    let new : Item = record { key = put.key; content = Value put.value } in
    let items = with_put new page.items in
    let are = rules.is_page.ordered in
    let in_range = λ (item : Item). IsTrue (is_in_range page.low page.high item.key) in
    let of_level = λ (item : Item). IsOfLevel page.level item.content in
    let ascending : IsAscending items = put_ascends new page.items are.ascending in
    fits_over chain (kind.Put put) page (record page { items = items }) refl next makes fit
    (record { ascending = ascending; contents = put_contents new page.items; level = refl; low = refl; high = refl; right = refl; removed = refl })
    (ruled_leaf page items rules fit.leaf (record { few = put_few new page.items 24 are.ascending are.few fit.room; ascending = ascending })
    (all_put in_range new page.items fit.covered (recursion_from_All in_range page.items rules.is_page.within))
    (all_put of_level new page.items fit.leaf (recursion_from_All of_level page.items rules.is_page.kinds)))

pub delete_fits : (chain : List Record) (page : Page) (delete : Delete) → Makes chain page → IsRuled page → IsRow delete.next → FitsDelete page delete → FitsOver chain (kind.Delete delete)
delete_fits chain page delete makes rules next fit =
    let items = without delete.key page.items in
    let are = rules.is_page.ordered in
    let in_range = λ (item : Item). IsTrue (is_in_range page.low page.high item.key) in
    let of_level = λ (item : Item). IsOfLevel page.level item.content in
    let ascending : IsAscending items = without_ascends delete.key page.items are.ascending in
    fits_over chain (kind.Delete delete) page (record page { items = items }) refl next makes fit
    (record { ascending = ascending; contents = without_contents delete.key page.items; level = refl; low = refl; high = refl; right = refl; removed = refl })
    (ruled_leaf page items rules fit.leaf (record { few = omega (arith, without_few delete.key page.items, are.few); ascending = ascending })
    (all_without in_range delete.key page.items (recursion_from_All in_range page.items rules.is_page.within))
    (all_without of_level delete.key page.items (recursion_from_All of_level page.items rules.is_page.kinds)))
