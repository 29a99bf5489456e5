-- What a search finds among ascending items, and what an edit at that place does.
use Rattle.std.proofs.Common.{◌≡◌, ℕ, zero, suc, ◌+◌, ◌<◌, ◌≤◌, List, [], ◌∷◌, ◌++◌, length, get_or, take, drop, set, map, add-one, true, false, Result, Ok}
use Rattle.std.proofs.Common.{Err, IfOk, IfErr, Some, None, refl, sym, ap, subst, ◌∙◌, arith}
use Rattle.std.specs.Prelude.{if◌then◌else◌}
use Rattle.std.specs.List.{AllByRecursion, AllWithin, insert, remove, refill}
use Rattle.std.specs.List.Sorted.{IsSearchInRange, IsBinarySearchResult, IsSortedBy}
use Rattle.std.specs.Ordering.{is_eq, is_lt}
use Rattle.std.specs.declared.cmp.Ordering.TheVariants.{Less, Greater}
use Rattle.std.proofs.lemmas.Cmp.{nat_list_cmp_total}
use Rattle.std.proofs.lemmas.List.{take-append-drop, take_at, drop_more, get_or-map, set_split, length-set}
use Rattle.std.proofs.lemmas.List.Edits.{length-insert, length-remove}
use Rattle.std.proofs.lemmas.List.Sorted.{searchable_from_sorted}
use Rattle.std.proofs.lemmas.Map.Keys.{Less-from_sorted}
use Rattle.std.proofs.lemmas.List.{length-map, length-take, length-drop}
use Rattle.bw_model.specs.Bytes.{key_cmp, is_below}
use Rattle.base_page.specs.declared.item.Content.{Content}
use Rattle.base_page.specs.declared.item.Content.TheVariants.{Child}
use Rattle.base_page.specs.declared.item.Item.{Item}
use Rattle.base_page.specs.Pages.{content_at, AreItems, IsAscending}
use Rattle.base_page.specs.Places.{IsAt, IsCut, IsGap}
use Rattle.base_page.proofs.KeyLaws.{above, below, itself, same, either}
use Rattle.base_page.proofs.ItemLaws.{all-weaker, all-both, AllAbove, AllBelow, Ascends, Ascends-from, IsAscending-from, joined, front_ascends, back_ascends}
use Rattle.base_page.proofs.ItemLaws.{before, lacks_below, lacks_above, append_lacks, middle_other, middle_here}

pub within_take : {X : Type 0} (P : X → Type 0) (xs : List X) (i : ℕ) → i ≤ length xs → AllWithin P xs 0 i → AllByRecursion P (take i xs)
within_take P [] zero l h = tt
within_take P [] (suc i) l h = tt
within_take P (x ∷ xs) zero l h = tt
within_take P (x ∷ xs) (suc i) l h = (h 0 x (omega arith) (omega arith), within_take P xs i (omega arith) (λ k d a b. h (suc k) d (omega arith) (omega arith)))

pub within_drop : {X : Type 0} (P : X → Type 0) (xs : List X) (i : ℕ) → AllWithin P xs i (length xs) → AllByRecursion P (drop i xs)
within_drop P [] zero h = tt
within_drop P [] (suc i) h = tt
within_drop P (x ∷ xs) zero h = (h 0 x (omega arith) (omega arith), within_drop P xs zero (λ k d a b. h (suc k) d (omega arith) (omega arith)))
within_drop P (x ∷ xs) (suc i) h = within_drop P xs i (λ k d a b. h (suc k) d (omega arith) (omega arith))

-- neighbours are in order, as a search asks
neighbours : (items : List Item) → IsAscending items → IsSortedBy (λ (a b : Item). is_lt (key_cmp a.key b.key)) items
neighbours items asc k d a b =
    let len : length (map (λ (item : Item). item.key) items) ≡ length items = length-map items (λ (item : Item). item.key) in
    let less = Less-from_sorted key_cmp (map (λ (item : Item). item.key) items) k (k + 1) d.key asc (omega arith) (omega arith) in
    let left = get_or-map (λ (item : Item). item.key) items k d d.key (omega arith) in
    let right = get_or-map (λ (item : Item). item.key) items (k + 1) d d.key b in
    ap is_lt (above (get_or items k d).key (get_or items (k + 1) d).key (rw (left, right) at less))

pub searched : (items : List Item) → IsAscending items → (key : List ℕ) (r : Result ℕ ℕ) → IsSearchInRange r (length items) → IsBinarySearchResult (λ (item : Item). key_cmp item.key key) items r
    → record { found : IfOk r (IsAt items key); absent : IfErr r (IsGap items key) }
searched items asc key (Ok place) range found = record { found = record { within = range; found = λ d. same _ _ (ap is_eq (found d)) }; absent = tt }
searched items asc key (Err place) range parted =
    let parts = parted (searchable_from_sorted nat_list_cmp_total (λ (item : Item). item.key) items key (neighbours items asc)) in
    record {
      found = tt;
      absent = record {
        within = range;
        below = within_take (λ (item : Item). key_cmp item.key key ≡ Less) items place range parts.0;
        above = all-weaker _ _ (λ (item : Item) h. below item.key key h) (drop place items) (within_drop (λ (item : Item). key_cmp item.key key ≡ Greater) items place parts.1);
      };
    }

-- the items around an item
module _ (front back : List Item) (item : Item) (asc : Ascends (front ++ item ∷ back)) where
  pub below_item : AllBelow item.key front
  below_item = all-weaker _ _ (λ (x : Item) h. h.0) front (before front (item ∷ back) asc)

  pub above_item : AllAbove item.key back
  above_item = let rest : Ascends (item ∷ back) = back_ascends front (item ∷ back) asc in rest.0

  apart : (q : List ℕ) → is_eq (key_cmp q item.key) ≡ true → content_at front q ≡ None
  apart q h = rw (same q item.key h) (lacks_below front item.key below_item)

  pub found_between : content_at (front ++ item ∷ back) item.key ≡ Some item.content
  found_between = middle_here front back item item.key (lacks_below front item.key below_item) (ap is_eq (itself item.key))

  pub replaced : (content : Content) (q : List ℕ)
      → content_at (front ++ record { key = item.key; content = content } ∷ back) q ≡ (if is_eq (key_cmp q item.key) then Some content else content_at (front ++ item ∷ back) q)
  replaced content q = either (is_eq (key_cmp q item.key))
      (λ yes. middle_here front back (record { key = item.key; content = content }) q (apart q yes) yes ∙ rw yes refl)
      (λ no. middle_other front back (record { key = item.key; content = content }) q no ∙ sym (middle_other front back item q no) ∙ rw no refl)

  pub removed : (q : List ℕ) → content_at (front ++ back) q ≡ (if is_eq (key_cmp q item.key) then None else content_at (front ++ item ∷ back) q)
  removed q = either (is_eq (key_cmp q item.key))
      (λ yes.
      let rest : content_at back q ≡ None = rw (same q item.key yes) (lacks_above back item.key above_item) in
      append_lacks front back q (apart q yes) ∙ rest ∙ rw yes refl)
      (λ no. sym (middle_other front back item q no) ∙ rw no refl)

  pub replaced_ascends : (content : Content) → Ascends (front ++ record { key = item.key; content = content } ∷ back)
  replaced_ascends content =
      let rest : Ascends (item ∷ back) = back_ascends front (item ∷ back) asc in
      joined front (record { key = item.key; content = content } ∷ back) (front_ascends front (item ∷ back) asc) rest (before front (item ∷ back) asc)

  pub removed_ascends : Ascends (front ++ back)
  removed_ascends =
      let rest : Ascends (item ∷ back) = back_ascends front (item ∷ back) asc in
      joined front back (front_ascends front (item ∷ back) asc) rest.1 (all-weaker _ _ (λ (x : Item) h. h.1) front (before front (item ∷ back) asc))

-- the items around a gap
module _ (front back : List Item) (item : Item) (below : AllBelow item.key front) (above : AllAbove item.key back) where
  pub lacks_gap : content_at (front ++ back) item.key ≡ None
  lacks_gap = append_lacks front back item.key (lacks_below front item.key below) ∙ lacks_above back item.key above

  pub inserted : (q : List ℕ) → content_at (front ++ item ∷ back) q ≡ (if is_eq (key_cmp q item.key) then Some item.content else content_at (front ++ back) q)
  inserted q = either (is_eq (key_cmp q item.key))
      (λ yes. middle_here front back item q (rw (same q item.key yes) (lacks_below front item.key below)) yes ∙ rw yes refl)
      (λ no. middle_other front back item q no ∙ rw no refl)

  pub inserted_ascends : Ascends (front ++ back) → Ascends (front ++ item ∷ back)
  inserted_ascends asc =
      joined front (item ∷ back) (front_ascends front back asc) (above, back_ascends front back asc) (all-both _ _ _ (λ (x : Item) less more. (less, more)) front below (before front back asc))

-- the items around the place where a key stands
pub split : (items : List Item) (key : List ℕ) (place : ℕ) (d : Item) → IsAt items key place
    → items ≡ take place items ++ record { key = key; content = (get_or items place d).content } ∷ drop (suc place) items
split items key place d at =
    let key_is : (get_or items place d).key ≡ key = at.found d in
    let item_is : get_or items place d ≡ record { key = key; content = (get_or items place d).content } = λ i. record { key = key_is i; content = (get_or items place d).content } in
    sym (take-append-drop place items) ∙ ap (λ rest. take place items ++ rest) (drop_more items place d at.within ∙ rw add-one (ap (λ item. item ∷ drop (suc place) items) item_is))

-- a write through the slice of all items
pub refilled : {X : Type 0} (xs ws : List X) → length ws ≡ length xs → refill (length xs) xs ws ≡ ws
refilled xs ws h = take_at ws (drop (length ws) xs) (length xs) h

module _ (items : List Item) (are : AreItems items) (key : List ℕ) (place : ℕ) (d : Item) (at : IsAt items key place) where
  around : Ascends (take place items ++ record { key = key; content = (get_or items place d).content } ∷ drop (suc place) items)
  around = subst Ascends (split items key place d at) (Ascends-from items are.ascending)

  pub content_at_place : content_at items key ≡ Some (get_or items place d).content
  content_at_place =
      ap (λ (xs : List Item). content_at xs key) (split items key place d at)
      ∙ found_between (take place items) (drop (suc place) items) (record { key = key; content = (get_or items place d).content }) around

  pub content_at-set : (content : Content) (q : List ℕ)
      → content_at (set items place (record { key = key; content = content })) q ≡ (if is_eq (key_cmp q key) then Some content else content_at items q)
  content_at-set content q =
      ap (λ (xs : List Item). content_at xs q) (set_split items place (record { key = key; content = content }) at.within)
      ∙ replaced (take place items) (drop (suc place) items) (record { key = key; content = (get_or items place d).content }) around content q
      ∙ ap (λ (xs : List Item). if is_eq (key_cmp q key) then Some content else content_at xs q) (sym (split items key place d at))

  pub AreItems-set : (content : Content) → AreItems (set items place (record { key = key; content = content }))
  AreItems-set content = record {
    few = rw length-set are.few;
    ascending =
        rw (set_split items place (record { key = key; content = content }) at.within)
        (IsAscending-from _ (replaced_ascends (take place items) (drop (suc place) items) (record { key = key; content = (get_or items place d).content }) around content));
  }

  pub content_at-remove : (q : List ℕ) → content_at (remove items place) q ≡ (if is_eq (key_cmp q key) then None else content_at items q)
  content_at-remove q = removed (take place items) (drop (suc place) items) (record { key = key; content = (get_or items place d).content }) around q
      ∙ ap (λ (xs : List Item). if is_eq (key_cmp q key) then None else content_at xs q) (sym (split items key place d at))

  pub AreItems-remove : AreItems (remove items place)
  AreItems-remove = record {
    few = omega (arith, length-remove items place at.within, are.few);
    ascending = IsAscending-from _ (removed_ascends (take place items) (drop (suc place) items) (record { key = key; content = (get_or items place d).content }) around);
  }

module _ (items : List Item) (key : List ℕ) (place : ℕ) (gap : IsGap items key place) where
  pub content_at_gap : content_at items key ≡ None
  content_at_gap =
      ap (λ (xs : List Item). content_at xs key) (sym (take-append-drop place items))
      ∙ lacks_gap (take place items) (drop place items) (record { key = key; content = Child 0 false }) gap.below gap.above

  pub content_at-insert : (content : Content) (q : List ℕ)
      → content_at (insert items place (record { key = key; content = content })) q ≡ (if is_eq (key_cmp q key) then Some content else content_at items q)
  content_at-insert content q = inserted (take place items) (drop place items) (record { key = key; content = content }) gap.below gap.above q
      ∙ ap (λ (xs : List Item). if is_eq (key_cmp q key) then Some content else content_at xs q) (take-append-drop place items)

  pub AreItems-insert : (content : Content) → AreItems items → length items < 24 → AreItems (insert items place (record { key = key; content = content }))
  AreItems-insert content are room = record {
    few = omega (arith, length-insert items place (record { key = key; content = content }) gap.within);
    ascending =
        IsAscending-from _ (inserted_ascends (take place items) (drop place items) (record { key = key; content = content }) gap.below gap.above
        (subst Ascends (sym (take-append-drop place items)) (Ascends-from items are.ascending)));
  }

module _ (items : List Item) (are : AreItems items) (place : ℕ) where
  both : Ascends (take place items ++ drop place items)
  both = subst Ascends (sym (take-append-drop place items)) (Ascends-from items are.ascending)

  pub AreItems-take : AreItems (take place items)
  AreItems-take = record { few = omega (arith, length-take place items, are.few); ascending = IsAscending-from _ (front_ascends (take place items) (drop place items) both) }

  pub AreItems-drop : AreItems (drop place items)
  AreItems-drop = record { few = omega (arith, length-drop place items, are.few); ascending = IsAscending-from _ (back_ascends (take place items) (drop place items) both) }

-- the items before the place where a key stands, and those from there on
module _ (items : List Item) (are : AreItems items) (key : List ℕ) (place : ℕ) (d : Item) (at : IsAt items key place) where
  pub below_place : AllBelow key (take place items)
  below_place = below_item (take place items) (drop (suc place) items) (record { key = key; content = (get_or items place d).content }) (around items are key place d at)

  pub above_place : AllAbove key (drop (place + 1) items)
  above_place = rw add-one (above_item (take place items) (drop (suc place) items) (record { key = key; content = (get_or items place d).content }) (around items are key place d at))

  pub IsCut-at : IsCut items key place
  IsCut-at =
      let item_is : (get_or items place d).key ≡ key = at.found d in
      let first : is_below (get_or items place d).key key ≡ false = rw item_is (ap is_lt (itself key)) in
      record {
        within = omega (arith, at.within);
        below = below_place;
        rest = rw (drop_more items place d at.within) (first, all-weaker _ _ (λ (item : Item) h. ap is_lt (above key item.key h)) (drop (place + 1) items) above_place);
      }

pub IsCut-gap : (items : List Item) (key : List ℕ) (place : ℕ) → IsGap items key place → IsCut items key place
IsCut-gap items key place gap = record { within = gap.within; below = gap.below; rest = all-weaker _ _ (λ (item : Item) h. ap is_lt (above key item.key h)) (drop place items) gap.above }
