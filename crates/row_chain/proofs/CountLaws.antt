-- How many ascending items are below a bound, and what one record of a chain makes of their number.
use Rattle.row_chain.proofs.Words.{◌≡◌, ◌+◌, ◌-◌, ◌∷◌, ◌++◌, length, take, drop, true, refl, sym, ap, ◌∙◌, arith, if◌then◌else◌, is_some, AllByRecursion, is_eq, is_lt, length-drop, take_all}
use Rattle.row_chain.proofs.Words.{key_cmp, is_below, is_under, Content, Item, Page, IsAscending, content_at, either, Record, names, content_said, IsItemsOf, content_in, IsFitted, bound_under}
use Rattle.row_chain.proofs.Words.{count_under, ruled}
use Rattle.std.proofs.Common.{ℕ, List, [], Bool, false, Option, Some, None}
use Rattle.std.specs.Prelude.{◌&&◌}
use Rattle.std.specs.List.{filter}
use Rattle.std.specs.declared.cmp.Ordering.TheVariants.{Less}
use Rattle.std.proofs.lemmas.List.{length-take, take-append-drop}
use Rattle.base_page.specs.Places.{IsCut}
use Rattle.base_page.proofs.CutLaws.{AreItems-joined, content_at-joined}
use Rattle.base_page.proofs.ItemLaws.{Ascends, Ascends-from, IsAscending-from}
use Rattle.base_page.proofs.KeyLaws.{below_from, below_reach, below-trans, same}
use Rattle.deltas.specs.declared.record.Record.TheVariants as kind
use Rattle.deltas.specs.declared.record.Merge.{Merge}
use Rattle.deltas.specs.declared.record.Split.{Split}
use Rattle.traces.specs.chain.Fitted.{FitsOver}
use Rattle.traces.proofs.FittedLaws.{ascends_after, by_order, items_unique, lacks_first}
use Rattle.traces.proofs.Updated.{chosen, greater, itself, put_ascends, put_contents, with_put}

-- every item is below no bound
pub count_all : (items : List Item) → count_under None items ≡ length items
count_all [] = refl
count_all (item ∷ items) = rw (count_all items) (omega arith)

pub count_append : (bound : Option (List ℕ)) (xs ys : List Item) → count_under bound (xs ++ ys) ≡ count_under bound xs + count_under bound ys
count_append bound [] ys = omega arith
count_append bound (x ∷ xs) ys = let rest = count_append bound xs ys in omega (arith, rest)

-- the items before a cut, and no others
pub count_cut : (items : List Item) (key : List ℕ) (place : ℕ) → IsCut items key place → count_under (Some key) items ≡ place
count_cut items key place cut =
    let front = all_below (take place items) cut.below in
    let back = none_below (drop place items) cut.rest in
    let both = ap (count_under (Some key)) (sym (take-append-drop place items)) ∙ count_append (Some key) (take place items) (drop place items) in
    let len = length-take place items in
    let within = cut.within in
    omega (arith, front, back, both, len, within)
  where
    all_below : (xs : List Item) → AllByRecursion (λ item. key_cmp item.key key ≡ Less) xs → count_under (Some key) xs ≡ length xs
    all_below [] h = refl
    all_below (x ∷ xs) h = rw (h.0, all_below xs h.1) (omega arith)

    none_below : (xs : List Item) → AllByRecursion (λ item. is_below item.key key ≡ false) xs → count_under (Some key) xs ≡ 0
    none_below [] h = refl
    none_below (x ∷ xs) h = rw (h.0, none_below xs h.1) refl

-- one key

module _ (bound : Option (List ℕ)) where
  -- one more where the new key is below the bound
  abbrev one : List ℕ → ℕ
  one key = if is_under key bound then 1 else 0

  put_adds : (new : Item) (items : List Item) → content_at items new.key ≡ None → count_under bound (with_put new items) ≡ count_under bound items + one new.key
  put_adds new [] lacks = omega arith
  put_adds new (item ∷ items) lacks = by_order new.key item.key
      (λ less. rw less (omega arith))
      (λ same. let there : Some item.content ≡ None = rw (same, itself item.key) at lacks in cc)
      (λ more.
      let above = greater new.key item.key more in
      let rest = put_adds new items (rw above at lacks) in
      rw (above, rest) (omega arith))

  put_keeps : (new : Item) (items : List Item) (content : Content) → IsAscending items → content_at items new.key ≡ Some content → count_under bound (with_put new items) ≡ count_under bound items
  put_keeps new [] content ascending there = cc
  put_keeps new (item ∷ items) content ascending there = by_order new.key item.key
      (λ less. let none : None ≡ Some content = sym (lacks_first item items new.key ascending less) ∙ there in cc)
      (λ same. rw (same, itself item.key) refl)
      (λ more.
      let above = greater new.key item.key more in
      let rest = put_keeps new items content (ascends_after item items ascending) (rw above at there) in
      rw (above, rest) refl)

  -- What one key has is changed, from one content to another, of which either may be missing.
  pub changed : (key : List ℕ) (xs ys : List Item) → IsAscending xs → IsAscending ys → (was is : Option Content) → content_at xs key ≡ was
      → ((q : List ℕ) → content_at ys q ≡ (if is_eq (key_cmp q key) then is else content_at xs q))
      → count_under bound ys + (if is_some was then (if is_some is then 0 else one key) else 0) ≡ count_under bound xs + (if is_some is then (if is_some was then 0 else one key) else 0)
  changed key xs ys ax ay None None at_key contents = ap (λ (items : List Item). count_under bound items + 0) (items_unique ys xs ay ax (λ q. contents q ∙ unchanged q))
    where
      unchanged : (q : List ℕ) → (if is_eq (key_cmp q key) then None else content_at xs q) ≡ content_at xs q
      unchanged q = either (is_eq (key_cmp q key)) (λ yes. rw (yes, same q key yes) (sym at_key)) (λ no. rw no refl)
  changed key xs ys ax ay None (Some content) at_key contents =
      let new : Item = record { key = key; content = content } in
      let is_put : ys ≡ with_put new xs = items_unique ys (with_put new xs) ay (put_ascends new xs ax) (λ q. contents q ∙ sym (put_contents new xs q)) in
      let count = ap (count_under bound) is_put ∙ put_adds new xs at_key in
      omega (arith, count)
  changed key xs ys ax ay (Some content) None at_key contents =
      let new : Item = record { key = key; content = content } in
      let back : (q : List ℕ) → content_at xs q ≡ (if is_eq (key_cmp q key) then Some content else content_at ys q) = λ q. either (is_eq (key_cmp q key))
      (λ yes. rw (yes, same q key yes) at_key)
      (λ no. rw no (sym (rw no at (contents q)))) in
      let gone : content_at ys key ≡ None = rw (itself key) at (contents key) in
      let is_put : xs ≡ with_put new ys = items_unique xs (with_put new ys) ax (put_ascends new ys ay) (λ q. back q ∙ sym (put_contents new ys q)) in
      let count = ap (count_under bound) is_put ∙ put_adds new ys gone in
      omega (arith, count)
  changed key xs ys ax ay (Some content) (Some said) at_key contents =
      let new : Item = record { key = key; content = said } in
      let is_put : ys ≡ with_put new xs = items_unique ys (with_put new xs) ay (put_ascends new xs ax) (λ q. contents q ∙ sym (put_contents new xs q)) in
      ap (λ n. n + 0) (ap (count_under bound) is_put ∙ put_keeps new xs content ax at_key)

  -- a record that names one key
  pub changed_at : (newest : Record) (under : List Record) (key : List ℕ) (items rest : List Item) → ((q : List ℕ) → names newest q ≡ is_eq (key_cmp q key))
      → IsItemsOf (newest ∷ under) items → IsItemsOf under rest
      → count_under bound items + (if is_some (content_in under key) then (if is_some (content_said newest key) then 0 else one key) else 0)
      ≡ count_under bound rest + (if is_some (content_said newest key) then (if is_some (content_in under key) then 0 else one key) else 0)
  changed_at newest under key items rest named has under_has =
      changed key rest items under_has.ascending has.ascending (content_in under key) (content_said newest key) (under_has.contents key)
      (λ q. has.contents q ∙ rw (named q) (either (is_eq (key_cmp q key)) (λ yes. rw (yes, same q key yes) refl) (λ no. rw no (sym (under_has.contents q)))))

  -- where its key isn't below the bound
  pub unchanged_above : (newest : Record) (under : List Record) (key : List ℕ) (items rest : List Item) → ((q : List ℕ) → names newest q ≡ is_eq (key_cmp q key))
      → is_under key bound ≡ false → IsItemsOf (newest ∷ under) items → IsItemsOf under rest → count_under bound items + 0 ≡ count_under bound rest + 0
  unchanged_above newest under key items rest named above has under_has =
      let h = rw above at (changed_at newest under key items rest named has under_has) in
      rw (nothing (is_some (content_in under key)) (is_some (content_said newest key)), nothing (is_some (content_said newest key)) (is_some (content_in under key))) at h
    where
      nothing : (b d : Bool) → ◌≡◌ {A = ℕ} (if b then (if d then 0 else 0) else 0) 0
      nothing true true = refl
      nothing true false = refl
      nothing false d = refl

-- a split

abbrev lower : List ℕ → List Item → List Item
lower separator items = filter (λ item. is_below item.key separator) items

lower_all : (separator : List ℕ) (P : Item → Type 0) (items : List Item) → AllByRecursion P items → AllByRecursion P (lower separator items)
lower_all separator P [] h = tt
lower_all separator P (item ∷ items) h =
    let rest = lower_all separator P items h.1 in
    chosen (AllByRecursion P) (is_below item.key separator) (item ∷ lower separator items) (lower separator items) (h.0, rest) rest

lower_ascends : (separator : List ℕ) (items : List Item) → Ascends items → Ascends (lower separator items)
lower_ascends separator [] h = tt
lower_ascends separator (item ∷ items) h =
    let rest = lower_ascends separator items h.1 in
    chosen Ascends (is_below item.key separator) (item ∷ lower separator items) (lower separator items) (lower_all separator (λ (other : Item). key_cmp item.key other.key ≡ Less) items h.0, rest) rest

lower_contents : (separator : List ℕ) (items : List Item) (q : List ℕ) → content_at (lower separator items) q ≡ (if is_below q separator then content_at items q else None)
lower_contents separator [] q = either (is_below q separator) (λ yes. rw yes refl) (λ no. rw no refl)
lower_contents separator (item ∷ items) q =
    let rest = lower_contents separator items q in
    either (is_eq (key_cmp q item.key))
    (λ yes. let is : q ≡ item.key = same q item.key yes in either (is_below item.key separator)
    (λ below. rw (below, is, itself item.key, below) refl)
    (λ above. rw (above, is, above) (rw (is, above) at rest)))
    (λ no. either (is_below item.key separator)
    (λ below. rw (below, no) rest)
    (λ above. rw (above, no) rest))

-- below both the separator and the bound
both_bounds : (separator : List ℕ) (bound : Option (List ℕ)) (key : List ℕ) → is_below key separator && is_under key bound ≡ is_under key (if is_under separator bound then Some separator else bound)
both_bounds separator None key = either (is_below key separator) (λ yes. rw yes refl) (λ no. rw no refl)
both_bounds separator (Some bound) key = either (is_below separator bound)
    (λ lower. rw lower (either (is_below key separator)
    (λ yes. rw (yes, ap is_lt (below-trans key separator bound (below_from key separator yes) (below_from separator bound lower))) refl)
    (λ no. rw no refl)))
    (λ higher. rw higher (either (is_below key bound)
    (λ yes. rw (yes, ap is_lt (below_reach key bound separator (below_from key bound yes) higher)) refl)
    (λ no. rw no (none (is_below key separator)))))
  where
    none : (b : Bool) → b && false ≡ false
    none true = refl
    none false = refl

count_lower : (separator : List ℕ) (bound : Option (List ℕ)) (items : List Item)
    → count_under bound (lower separator items) ≡ count_under (if is_under separator bound then Some separator else bound) items
count_lower separator bound [] = refl
count_lower separator bound (item ∷ items) =
    let rest = count_lower separator bound items in
    let test = both_bounds separator bound item.key in
    either (is_below item.key separator)
    (λ below. let is : is_under item.key bound ≡ is_under item.key (if is_under separator bound then Some separator else bound) = rw below at test in rw (below, rest, ← is) refl)
    (λ above. let is : false ≡ is_under item.key (if is_under separator bound then Some separator else bound) = rw above at test in rw (above, rest, ← is) (omega arith))

pub changed_by_split : (bound : Option (List ℕ)) (split : Split) (under : List Record) (items rest : List Item) → IsItemsOf (kind.Split split ∷ under) items → IsItemsOf under rest
    → count_under bound items ≡ count_under (bound_under (kind.Split split) bound) rest
changed_by_split bound split under items rest has under_has =
    let separator = split.separator in
    let is : items ≡ lower separator rest = items_unique items (lower separator rest) has.ascending (IsAscending-from _ (lower_ascends separator rest (Ascends-from rest under_has.ascending)))
    (λ q. has.contents q ∙ either (is_below q separator)
    (λ yes. rw yes (sym (under_has.contents q) ∙ sym (rw yes at (lower_contents separator rest q))))
    (λ no. rw no (sym (rw no at (lower_contents separator rest q))))) in
    ap (count_under bound) is ∙ count_lower separator bound rest

-- a merge

pub changed_by_merge : (bound : Option (List ℕ)) (merge : Merge) (under : List Record) (items rest : List Item) → FitsOver under (kind.Merge merge)
    → IsFitted under → IsItemsOf (kind.Merge merge ∷ under) items → IsItemsOf under rest
    → count_under bound items ≡ count_under bound rest + count_under bound merge.items
changed_by_merge bound merge under items rest over fitted has under_has =
    let page = over.page in
    let next : Page = record { level = merge.level; low = merge.low; high = merge.high; right = merge.right; removed = false; items = merge.items } in
    let is_page = (ruled under page fitted over.makes).is_page in
    let fit = over.fits in
    let same_rest : page.items ≡ rest = items_unique page.items rest over.makes.items.ascending under_has.ascending (λ q. over.makes.items.contents q ∙ sym (under_has.contents q)) in
    let joined = content_at-joined page next is_page fit.merged fit.meets in
    let is : items ≡ page.items ++ merge.items = items_unique items (page.items ++ merge.items) has.ascending (AreItems-joined page next is_page fit.merged fit.meets fit.room).ascending
    (λ q. has.contents q ∙ ap (λ r. if names (kind.Merge merge) q then content_at merge.items q else r) (sym (over.makes.items.contents q)) ∙ sym (joined q)) in
    ap (count_under bound) is ∙ count_append bound page.items merge.items ∙ ap (λ (xs : List Item). count_under bound xs + count_under bound merge.items) same_rest

-- a removal

pub unchanged : (bound : Option (List ℕ)) (one other : List Record) (items rest : List Item) → ((q : List ℕ) → content_in one q ≡ content_in other q) → IsItemsOf one items → IsItemsOf other rest
    → count_under bound items ≡ count_under bound rest
unchanged bound one other items rest same has other_has = ap (count_under bound) (items_unique items rest has.ascending other_has.ascending (λ q. has.contents q ∙ same q ∙ sym (other_has.contents q)))

-- the rows from a place on

pub rest_is : (rows : List Record) (place : ℕ) → take (length rows - (place + 1)) (drop (place + 1) rows) ≡ drop (place + 1) rows
rest_is rows place = take_all (length rows - (place + 1)) (drop (place + 1) rows) (let len = length-drop (place + 1) rows in omega (arith, len))
