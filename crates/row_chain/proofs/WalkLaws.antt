-- What a walk over the records of a chain finds.
use Rattle.row_chain.proofs.Words.{◌≡◌, ◌+◌, ◌-◌, ◌<◌, ◌≤◌, ◌∷◌, ◌++◌, length, get_or, take, drop, map, true, refl, sym, ap, subst, ◌∙◌, arith, if◌then◌else◌, is_some, not, AllWithin, is_lt}
use Rattle.row_chain.proofs.Words.{length-drop, key_cmp, is_below, Content, Item, AreItems, Page, content_at, IsGreatest, either, and_left, belongs, Record, Base}
use Rattle.row_chain.proofs.Words.{names, content_said, content_in, is_above, is_named, is_taken, IsGreatestKey, PassesUpTo}
use Rattle.std.proofs.Common.{ℕ, List, [], Bool, false, Option, Some, None}
use Rattle.std.specs.Prelude.{ltb, IsTrue, IsSome, ◌&&◌}
use Rattle.std.proofs.Math.Bool.{and-false}
use Rattle.std.proofs.lemmas.Bool.{ltb-true, ltb-false}
use Rattle.std.proofs.lemmas.List.{get_or_default, get_or-map, get_or-take, get_or-drop, length-map, length-take}
use Rattle.std.proofs.lemmas.List.Elements.{All-from_recursion, recursion_from_All}
use Rattle.std.proofs.lemmas.Map.Keys.{Less-from_sorted}
use Rattle.bw_model.specs.Bytes.{is_in_range}
use Rattle.base_page.specs.Pages.{IsPage}
use Rattle.base_page.specs.Places.{IsAt}
use Rattle.base_page.proofs.ItemLaws.{of_content}
use Rattle.base_page.proofs.KeyLaws.{above, below_from, below_reach, itself, and_right, and_both, not_true}
use Rattle.base_page.proofs.PlaceLaws.{content_at_place}
use Rattle.row_search.specs.Items.{may_take}
use Rattle.row_chain.specs.Walks.{is_open}

pub none_there : {G : Type 0} (o : Option Content) → o ≡ None → IsSome o → G
none_there None e h = cc
none_there (Some content) e h = cc

-- keys

not_below : (a b : List ℕ) → is_below a b ≡ true → is_below b a ≡ false
not_below a b h = ap is_lt (above a b (below_from a b h))

-- a key that isn't below one which isn't below a third
pub down : (a b c : List ℕ) → is_below a b ≡ false → is_below b c ≡ false → is_below a c ≡ false
down a b c h k = either (is_below a c)
    (λ yes. let less = below_reach a c b (below_from a c yes) k in let both : true ≡ false = sym (ap is_lt less) ∙ h in cc)
    (λ no. no)

-- newer records over others

unnamed : (newer : List Record) (key : List ℕ) → is_named newer key ≡ false → content_in newer key ≡ None
unnamed [] key h = refl
unnamed (newest ∷ under) key h = by_name (names newest key) (unnamed under key) h
  where
    by_name : (b : Bool) → (is_named under key ≡ false → content_in under key ≡ None) → (if b then true else is_named under key) ≡ false
        → (if b then content_said newest key else content_in under key) ≡ None
    by_name true rest h = cc
    by_name false rest h = rest h

content_over : (newer older : List Record) (key : List ℕ) → content_in (newer ++ older) key ≡ (if is_named newer key then content_in newer key else content_in older key)
content_over [] older key = refl
content_over (newest ∷ under) older key = by_name (names newest key) (content_over under older key)
  where
    by_name : (b : Bool) → content_in (under ++ older) key ≡ (if is_named under key then content_in under key else content_in older key)
        → (if b then content_said newest key else content_in (under ++ older) key)
        ≡ (if (if b then true else is_named under key) then (if b then content_said newest key else content_in under key) else content_in older key)
    by_name true rest = refl
    by_name false rest = rest

-- what the newer ones have, the whole has too; and where they name no key, the whole has what the older ones have
pub kept : (newer older : List Record) (key : List ℕ) (content : Content) → content_in newer key ≡ Some content → content_in (newer ++ older) key ≡ Some content
kept newer older key content h = content_over newer older key ∙ by_name (is_named newer key) refl
  where
    by_name : (b : Bool) → is_named newer key ≡ b → (if b then content_in newer key else content_in older key) ≡ Some content
    by_name true e = h
    by_name false e = let none = unnamed newer key e in let clash : None ≡ Some content = sym none ∙ h in cc

beside : (newer older : List Record) (key : List ℕ) → is_named newer key ≡ false → content_in (newer ++ older) key ≡ content_in older key
beside newer older key h = content_over newer older key ∙ rw h refl

-- The greatest of the newer records' keys, and the greatest one that they leave to an older one.
module _ (newer older : List Record) (passes : List ℕ → Bool) where
  abbrev Open : List ℕ → Bool
  Open key = is_open newer passes key

  -- each key that has a content has it of the newer records, or is open and has it of the older ones
  of_either : {G : Type 0} (key : List ℕ) → IsTrue (passes key) → (content_in newer key ≡ content_in (newer ++ older) key → G)
      → (IsTrue (Open key) → content_in older key ≡ content_in (newer ++ older) key → G) → G
  of_either key under f g = either (is_named newer key)
      (λ yes. f (sym (content_over newer older key ∙ rw yes refl)))
      (λ no. g (and_both (passes key) (not (is_named newer key)) under (rw no refl)) (sym (beside newer older key no)))

  open_passes : (key : List ℕ) → IsTrue (Open key) → IsTrue (passes key)
  open_passes key h = and_left (passes key) (not (is_named newer key)) h

  open_unnamed : (key : List ℕ) → IsTrue (Open key) → is_named newer key ≡ false
  open_unnamed key h = not_true (is_named newer key) (and_right (passes key) (not (is_named newer key)) h)

  from_older : (key : List ℕ) (content : Content) → IsGreatestKey (content_in newer) passes None → IsGreatest (content_in older) Open key content
      → IsGreatest (content_in (newer ++ older)) passes key content
  from_older key content none g = record {
    has = beside newer older key (open_unnamed key g.passing) ∙ g.has;
    passing = open_passes key g.passing;
    greatest = λ other under some. of_either other under
        (λ same. none_there (content_in (newer ++ older) other) (sym same ∙ none other under) some)
        (λ free same. g.greatest other free (subst IsSome (sym same) some));
  }

  -- the older ones' key, where it is above the newer ones'
  pub outdoes : (best : Option (List ℕ)) (key : List ℕ) (content : Content) → IsTrue (is_above best key) → IsGreatestKey (content_in newer) passes best → IsGreatest (content_in older) Open key content
      → IsGreatest (content_in (newer ++ older)) passes key content
  outdoes None key content above g h = from_older key content g h
  outdoes (Some one) key content above g h = record {
    has = beside newer older key (open_unnamed key h.passing) ∙ h.has;
    passing = open_passes key h.passing;
    greatest = λ other under some. of_either other under
        (λ same. down key one other (not_below one key above) (g.1.greatest other under (subst IsSome (sym same) some)))
        (λ free same. h.greatest other free (subst IsSome (sym same) some));
  }

  -- the newer ones' key, where none that they leave to the older ones is above it
  pub stays : (best : Option (List ℕ)) → IsGreatestKey (content_in newer) passes best → ((other : List ℕ) → IsTrue (Open other) → IsSome (content_in older other) → is_above best other ≡ false)
      → IsGreatestKey (content_in (newer ++ older)) passes best
  stays None g h = λ key under. of_either key under (λ same. sym same ∙ g key under) (λ free same. sym same ∙ lacks (content_in older key) (h key free))
    where
      lacks : (o : Option Content) → (IsSome o → true ≡ false) → o ≡ None
      lacks None f = refl
      lacks (Some content) f = let clash : true ≡ false = f refl in cc
  stays (Some one) g h = (
    g.0,
    record {
      has = kept newer older one g.0 g.1.has;
      passing = g.1.passing;
      greatest = λ other under some. of_either other under
          (λ same. g.1.greatest other under (subst IsSome (sym same) some))
          (λ free same. h other free (subst IsSome (sym same) some));
    },
  )

-- a key that passes and is above the greatest one isn't there
pub not_there : (newer : List Record) (passes : List ℕ → Bool) (best : Option (List ℕ)) (key : List ℕ) → IsGreatestKey (content_in newer) passes best → IsTrue (passes key) → IsTrue (is_above best key)
    → content_in newer key ≡ None
not_there newer passes None key g pass above = g key pass
not_there newer passes (Some best) key g pass above = by_content (content_in newer key) refl
  where
    by_content : (o : Option Content) → content_in newer key ≡ o → o ≡ None
    by_content None e = refl
    by_content (Some content) e = let clash : true ≡ false = sym above ∙ g.1.greatest key pass (ap is_some e) in cc

-- A record that never says that a key is absent has a content at each key that it names.
gives : (newest : Record) (key : List ℕ) → may_take newest ≡ false → content_said newest key ≡ None → ⊥
gives (Base page) key e h = cc
gives other key e h = cc

-- where a key isn't there, it is named only where it is taken away
pub untaken : (newer : List Record) (key : List ℕ) → content_in newer key ≡ None → is_taken newer key ≡ false → is_named newer key ≡ false
untaken [] key none h = refl
untaken (newest ∷ under) key none h = by (names newest key) (may_take newest) refl (untaken under key) none h
  where
    by : (b may : Bool) → may_take newest ≡ may → (content_in under key ≡ None → is_taken under key ≡ false → is_named under key ≡ false)
        → (if b then content_said newest key else content_in under key) ≡ None → (if may && b then true else is_taken under key) ≡ false
        → (if b then true else is_named under key) ≡ false
    by true true e rest none h = cc
    by true false e rest none h = absurd (gives newest key e none)
    by false true e rest none h = rest none h
    by false false e rest none h = rest none h

pub taken_named : (newer : List Record) (key : List ℕ) → is_taken newer key ≡ true → is_named newer key ≡ true
taken_named [] key h = cc
taken_named (newest ∷ under) key h = by (names newest key) (may_take newest) (taken_named under key) h
  where
    by : (b may : Bool) → (is_taken under key ≡ true → is_named under key ≡ true) → (if may && b then true else is_taken under key) ≡ true → (if b then true else is_named under key) ≡ true
    by true may rest h = refl
    by false true rest h = rest h
    by false false rest h = rest h

-- what one record offers

-- a record that has items
pub offers_none : (delta : Record) (items : List Item) (passes : List ℕ → Bool) → ((q : List ℕ) → content_in (delta ∷ []) q ≡ content_at items q)
    → IsGreatestKey (content_at items) passes None → IsGreatestKey (content_in (delta ∷ [])) passes None
offers_none delta items passes is h = λ key pass. is key ∙ h key pass

pub offers_item : (delta : Record) (items : List Item) (passes : List ℕ → Bool) (key : List ℕ) (content : Content) → ((q : List ℕ) → content_in (delta ∷ []) q ≡ content_at items q)
    → IsGreatest (content_at items) passes key content → IsGreatest (content_in (delta ∷ [])) passes key content
offers_item delta items passes key content is h = record {
  has = is key ∙ h.has;
  passing = h.passing;
  greatest = λ other pass some. h.greatest other pass (subst IsSome (is other) some);
}

-- the items of a page are in its range
pub in_range : (page : Page) → IsPage page → (key : List ℕ) → (if is_in_range page.low page.high key then content_at page.items key else None) ≡ content_at page.items key
in_range page is key = either (is_in_range page.low page.high key)
    (λ yes. rw yes refl)
    (λ no. rw no (by_content (content_at page.items key) refl no))
  where
    by_content : (o : Option Content) → content_at page.items key ≡ o → is_in_range page.low page.high key ≡ false → None ≡ o
    by_content None e out = refl
    by_content (Some content) e out = let clash : true ≡ false = sym (belongs page is key content e).within ∙ out in cc

-- one item more, from the last one on
pub one_more : (P : Item → Type 0) (items : List Item) (place count : ℕ) → 0 < place → AllWithin P items place count
    → ((d : Item) → P (get_or items (place - 1) d)) → AllWithin P items (place - 1) count
one_more P items place count some all here k d low high = by (ltb k place) refl
  where
    by : (b : Bool) → ltb k place ≡ b → P (get_or items k d)
    by true e =
        let less = ltb-true k place e in
        let is : place - 1 ≡ k = omega (arith, some, low, less) in
        rw (← is) (here d)
    by false e = all k d (ltb-false k place e) high

-- The last item that passes and is open, where each one after it isn't.
module _ (items : List Item) (are : AreItems items) (newer : List Record) (passes : List ℕ → Bool) (count : ℕ) (cut : PassesUpTo items passes count) (place : ℕ)
    (named : AllWithin (λ (item : Item). is_named newer item.key ≡ true) items place count) where
  abbrev Passes : List ℕ → Bool
  Passes key = is_open newer passes key

  pub under : (i : ℕ) (d : Item) → i < count → IsTrue (passes (get_or items i d).key)
  under i d lt =
      let all = All-from_recursion (λ (item : Item). IsTrue (passes item.key)) (take count items) cut.front in
      let within : i < length (take count items) = (let len = length-take count items in let in_all = cut.within in omega (arith, len, in_all, lt)) in
      rw (← (get_or-take count items i d lt)) (all i d within)

  not_under : (i : ℕ) (d : Item) → count ≤ i → i < length items → passes (get_or items i d).key ≡ false
  not_under i d le lt =
      let all = All-from_recursion (λ (item : Item). passes item.key ≡ false) (drop count items) cut.rest in
      let within : i - count < length (drop count items) = (let len = length-drop count items in omega (arith, len, le, lt)) in
      let same_place : count + (i - count) ≡ i = omega (arith, le) in
      rw (← (get_or-drop count items (i - count) d ∙ ap (λ n. get_or items n d) same_place)) (all (i - count) d within)

  -- each item from the place on doesn't pass
  closed : (i : ℕ) (d : Item) → place ≤ i → i < length items → Passes (get_or items i d).key ≡ false
  closed i d le lt = by_place (ltb i count) refl
    where
      by_place : (b : Bool) → ltb i count ≡ b → Passes (get_or items i d).key ≡ false
      by_place true e = rw (named i d le (ltb-true i count e)) (and-false (passes (get_or items i d).key))
      by_place false e = rw (not_under i d (ltb-false i count e) lt) refl

  pub none_open : place ≡ 0 → IsGreatestKey (content_at items) Passes None
  none_open zero key passes = by_content (content_at items key) refl
    where
      all : (i : ℕ) (d : Item) → i < length items → Passes (get_or items i d).key ≡ false
      all i d lt = closed i d (omega (arith, zero)) lt

      by_content : (o : Option Content) → content_at items key ≡ o → o ≡ None
      by_content None e = refl
      by_content (Some content) e =
          let not_open : Passes key ≡ false = of_content (λ item. Passes item.key ≡ false) items key content (recursion_from_All (λ (item : Item). Passes item.key ≡ false) items all) e in
          let clash : true ≡ false = sym passes ∙ not_open in
          cc

  -- the last one before the place
  module _ (d : Item) (some : 0 < place) (within : place ≤ count) where
    abbrev here : Item
    here = get_or items (place - 1) d

    inside : place - 1 < length items
    inside = let in_all = cut.within in omega (arith, some, within, in_all)

    -- an item that passes isn't above it
    upto : (i : ℕ) (e : Item) → i < length items → IsTrue (Passes (get_or items i e).key) → is_below here.key (get_or items i e).key ≡ false
    upto i e lt passes = by_place (ltb i place) refl (ltb i (place - 1)) refl
      where
        before : i < place - 1 → is_below here.key (get_or items i e).key ≡ false
        before less =
            let keys = map (λ (item : Item). item.key) items in
            let len : length keys ≡ length items = length-map items (λ (item : Item). item.key) in
            let ascends = Less-from_sorted key_cmp keys i (place - 1) e.key are.ascending less (omega (arith, len, inside)) in
            let left : get_or keys i e.key ≡ (get_or items i e).key = get_or-map (λ (item : Item). item.key) items i e e.key lt in
            let right : get_or keys (place - 1) e.key ≡ here.key = get_or-map (λ (item : Item). item.key) items (place - 1) d e.key inside in
            ap is_lt (above (get_or items i e).key here.key (rw (left, right) at ascends))

        by_place : (a : Bool) → ltb i place ≡ a → (b : Bool) → ltb i (place - 1) ≡ b → is_below here.key (get_or items i e).key ≡ false
        by_place false h b k = let clash : true ≡ false = sym passes ∙ closed i e (ltb-false i place h) lt in cc
        by_place true h true k = before (ltb-true i (place - 1) k)
        by_place true h false k =
            let less = ltb-true i place h in
            let not_less = ltb-false i (place - 1) k in
            let same_place : i ≡ place - 1 = omega (arith, less, not_less) in
            let same_item : get_or items i e ≡ here = ap (λ n. get_or items n e) same_place ∙ get_or_default items (place - 1) e d inside in
            rw same_item (ap is_lt (itself here.key))

    abbrev IsUpto : Item → Type 0
    IsUpto item = IsTrue (Passes item.key) → is_below here.key item.key ≡ false

    -- no item that passes and is open is above it
    pub upto_there : (other : List ℕ) → IsTrue (Passes other) → IsSome (content_at items other) → is_below here.key other ≡ false
    upto_there other passes there = by_content (content_at items other) refl
      where
        by_content : (o : Option Content) → content_at items other ≡ o → is_below here.key other ≡ false
        by_content None e = none_there (content_at items other) e there
        by_content (Some content) e = of_content IsUpto items other content (recursion_from_All IsUpto items upto) e passes

    -- where it is open, it is the greatest one
    pub last_open : is_named newer here.key ≡ false → IsGreatest (content_at items) Passes here.key here.content
    last_open free =
        let at : IsAt items here.key (place - 1) = record { within = inside; found = λ e. ap (λ (item : Item). item.key) (get_or_default items (place - 1) e d inside) } in
        record {
          has = content_at_place items are here.key (place - 1) d at;
          passing = and_both (passes here.key) (not (is_named newer here.key)) (under (place - 1) d (omega (arith, some, within))) (rw free refl);
          greatest = λ other passing there. upto_there other passing there;
        }
