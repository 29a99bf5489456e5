-- Pages cut at a key, and joined at one.
use Rattle.std.proofs.Common.{◌≡◌, ℕ, zero, suc, ◌+◌, ◌<◌, ◌≤◌, List, [], ◌∷◌, ◌++◌, length, get_or, take, drop, true, false, IsTrue, Option, Some, None, refl, sym, ap, ◌∙◌, arith}
use Rattle.std.specs.Prelude.{if◌then◌else◌, not}
use Rattle.std.specs.List.{AllByRecursion}
use Rattle.std.specs.Ordering.{is_lt}
use Rattle.std.specs.declared.cmp.Ordering.TheVariants.{Less}
use Rattle.std.proofs.lemmas.List.{take-append-drop, get_or_read, length-append}
use Rattle.std.proofs.lemmas.List.Elements.{All-take}
use Rattle.bw_model.specs.Bytes.{key_cmp, is_below, is_in_range, is_under}
use Rattle.base_page.specs.declared.item.Content.{Content}
use Rattle.base_page.specs.declared.item.Item.{Item}
use Rattle.base_page.specs.Pages.{Page, IsPage, AreItems, IsOfLevel, content_at}
use Rattle.base_page.specs.Places.{IsCut}
use Rattle.base_page.proofs.KeyLaws.{below_from, below_reach, below-trans, by_order, either, and_left, and_right, and_both, not_true}
use Rattle.base_page.proofs.ItemLaws.{all-weaker, AllBelow, AllBefore, Ascends-from, IsAscending-from, joined, lacks_below, lacks_above, append_lacks, append_front}
use Rattle.base_page.proofs.PlaceLaws.{AreItems-take, AreItems-drop, IsCut-at}
use Rattle.base_page.proofs.PageLaws.{Belongs, all_belong, belongs, IsPage-from_contents}

-- what is below a key is above what isn't
module _ (items : List Item) (key : List ℕ) (place : ℕ) (cut : IsCut items key place) (q : List ℕ) where
  rest_lacks : is_below q key ≡ true → content_at (drop place items) q ≡ None
  rest_lacks h = lacks_above (drop place items) q (all-weaker _ _ (λ (item : Item) rest. below_reach q key item.key (below_from q key h) rest) (drop place items) cut.rest)

  front_lacks : is_below q key ≡ false → content_at (take place items) q ≡ None
  front_lacks h = lacks_below (take place items) q (all-weaker _ _ (λ (item : Item) less. below_reach item.key key q less h) (take place items) cut.below)

  whole : content_at (take place items ++ drop place items) q ≡ content_at items q
  whole = ap (λ (xs : List Item). content_at xs q) (take-append-drop place items)

  pub content_at-take : content_at (take place items) q ≡ (if is_below q key then content_at items q else None)
  content_at-take = either (is_below q key)
      (λ yes. rw yes (sym (append_front (take place items) (drop place items) q (rest_lacks yes)) ∙ whole))
      (λ no. rw no (front_lacks no))

  pub content_at-drop : content_at (drop place items) q ≡ (if is_below q key then None else content_at items q)
  content_at-drop = either (is_below q key)
      (λ yes. rw yes (rest_lacks yes))
      (λ no. rw no (sym (append_lacks (take place items) (drop place items) q (front_lacks no)) ∙ whole))

-- the first items of a page make a page of the same range
pub IsPage-take : (page : Page) → IsPage page → (place : ℕ) → IsPage (record page { items = take place page.items })
IsPage-take page is place = record {
  spans = is.spans;
  ordered = AreItems-take page.items is.ordered place;
  within = All-take (λ (item : Item). IsTrue (is_in_range page.low page.high item.key)) place page.items is.within;
  kinds = All-take (λ (item : Item). IsOfLevel page.level item.content) place page.items is.kinds;
}

-- the two parts of a page
module _ (page : Page) (is : IsPage page) (key : List ℕ) (place : ℕ) (cut : IsCut page.items key place) where
  pub IsPage-lower : (right : ℕ) → is_below page.low key ≡ true → IsPage (record page { high = Some key; right = Some right; items = take place page.items })
  IsPage-lower right spans = IsPage-from_contents (record page { high = Some key; right = Some right; items = take place page.items }) spans (AreItems-take page.items is.ordered place)
      (λ q content h. either (is_below q key)
      (λ yes.
      let b = belongs page is q content (sym (rw yes at (content_at-take page.items key place cut q)) ∙ h) in
      record { within = and_both (not (is_below q page.low)) (is_below q key) (and_left (not (is_below q page.low)) (is_under q page.high) b.within) yes; kind = b.kind })
      (λ no. let none : None ≡ Some content = sym (rw no at (content_at-take page.items key place cut q)) ∙ h in cc))

  pub IsPage-upper : is_under key page.high ≡ true → IsPage (record page { low = key; items = drop place page.items })
  IsPage-upper spans = IsPage-from_contents (record page { low = key; items = drop place page.items }) spans (AreItems-drop page.items is.ordered place)
      (λ q content h. either (is_below q key)
      (λ yes. let none : None ≡ Some content = sym (rw yes at (content_at-drop page.items key place cut q)) ∙ h in cc)
      (λ no.
      let b = belongs page is q content (sym (rw no at (content_at-drop page.items key place cut q)) ∙ h) in
      record { within = and_both (not (is_below q key)) (is_under q page.high) (rw no refl) (and_right (not (is_below q page.low)) (is_under q page.high) b.within); kind = b.kind }))

-- the key of an item after the first is above the low key
pub above_low : (page : Page) → IsPage page → (key : List ℕ) (place : ℕ) → 0 < place → place ≤ length page.items → IsCut page.items key place → is_below page.low key ≡ true
above_low page is key place positive le cut = first page.items place positive le cut.below (all_belong page is)
  where
    first : (items : List Item) (place : ℕ) → 0 < place → place ≤ length items → AllBelow key (take place items) → AllByRecursion (Belongs page) items → is_below page.low key ≡ true
    first [] place positive le below all = absurd (omega arith)
    first (item ∷ items) zero positive le below all = absurd (omega arith)
    first (item ∷ items) (suc place) positive le below all =
        let low : is_below item.key page.low ≡ false = not_true (is_below item.key page.low) (and_left (not (is_below item.key page.low)) (is_under item.key page.high) all.0.within) in
        by_order page.low key
        (λ less. ap is_lt less)
        (λ same. let both : true ≡ false = sym (ap is_lt below.0) ∙ rw (← same) low in cc)
        (λ more. let both : true ≡ false = sym (ap is_lt (below-trans item.key key page.low below.0 more)) ∙ low in cc)

under_below : (a b : List ℕ) (high : Option (List ℕ)) → key_cmp a b ≡ Less → is_under b high ≡ true → is_under a high ≡ true
under_below a b None less h = refl
under_below a b (Some high) less h = ap is_lt (below-trans a b high less (below_from b high h))

-- a page and its neighbour to the right
module _ (page next : Page) (is : IsPage page) (is_next : IsPage next) (meets : page.high ≡ Some next.low) where
  below_next : (item : Item) → Belongs page item → key_cmp item.key next.low ≡ Less
  below_next item b = below_from item.key next.low (rw meets at (and_right (not (is_below item.key page.low)) (is_under item.key page.high) b.within))

  not_below : (q : List ℕ) → IsTrue (is_in_range next.low next.high q) → is_below q next.low ≡ false
  not_below q h = not_true (is_below q next.low) (and_left (not (is_below q next.low)) (is_under q next.high) h)

  all_before : AllBefore page.items next.items
  all_before =
      all-weaker (Belongs page) _ (λ (item : Item) b. all-weaker (Belongs next) _
      (λ (other : Item) c. below_reach item.key next.low other.key (below_next item b) (not_below other.key c.within)) next.items (all_belong next is_next))
      page.items (all_belong page is)

  pub AreItems-joined : length page.items + length next.items ≤ 24 → AreItems (page.items ++ next.items)
  AreItems-joined room = record {
    few = omega (arith, length-append page.items next.items);
    ascending = IsAscending-from _ (joined page.items next.items (Ascends-from page.items is.ordered.ascending) (Ascends-from next.items is_next.ordered.ascending) all_before);
  }

  lacks_out : (q : List ℕ) → is_in_range next.low next.high q ≡ false → (r : Option Content) → content_at next.items q ≡ r → content_at next.items q ≡ None
  lacks_out q outside None h = h
  lacks_out q outside (Some content) h =
      let b = belongs next is_next q content h in
      let both : true ≡ false = sym b.within ∙ outside in
      cc

  pub content_at-joined : (q : List ℕ) → content_at (page.items ++ next.items) q ≡ (if is_in_range next.low next.high q then content_at next.items q else content_at page.items q)
  content_at-joined q = either (is_in_range next.low next.high q)
      (λ yes.
      let low = lacks_below page.items q (all-weaker (Belongs page) _ (λ (item : Item) b. below_reach item.key next.low q (below_next item b) (not_below q yes)) page.items (all_belong page is)) in
      rw yes (append_lacks page.items next.items q low))
      (λ outside. rw outside (append_front page.items next.items q (lacks_out q outside (content_at next.items q) refl)))

  low_below : key_cmp page.low next.low ≡ Less
  low_below = below_from page.low next.low (rw meets at is.spans)

  not_below_low : (q : List ℕ) → is_below q next.low ≡ false → is_below q page.low ≡ false
  not_below_low q h = either (is_below q page.low)
      (λ yes. let both : true ≡ false = sym (ap is_lt (below-trans q page.low next.low (below_from q page.low yes) low_below)) ∙ h in cc)
      (λ not_yes. not_yes)

  pub IsPage-joined : (right : Option ℕ) → next.level ≡ page.level → length page.items + length next.items ≤ 24
      → IsPage (record page { high = next.high; right = right; items = page.items ++ next.items })
  IsPage-joined right level room =
      IsPage-from_contents (record page { high = next.high; right = right; items = page.items ++ next.items }) (under_below page.low next.low next.high low_below is_next.spans) (AreItems-joined room)
      (λ q content h. either (is_in_range next.low next.high q)
      (λ yes.
      let b = belongs next is_next q content (sym (rw yes at (content_at-joined q)) ∙ h) in
      record {
        within = and_both (not (is_below q page.low)) (is_under q next.high) (rw (not_below_low q (not_below q b.within)) refl) (and_right (not (is_below q next.low)) (is_under q next.high) b.within);
        kind = rw (← level) b.kind;
      })
      (λ outside.
      let b = belongs page is q content (sym (rw outside at (content_at-joined q)) ∙ h) in
      record {
        within =
            and_both (not (is_below q page.low)) (is_under q next.high) (and_left (not (is_below q page.low)) (is_under q page.high) b.within)
            (under_below q next.low next.high (below_next (record { key = q; content = content }) b) is_next.spans);
        kind = b.kind;
      }))

-- the cut at an item
module _ (page : Page) (is : IsPage page) (place : ℕ) (lt : place < length page.items) (item : Item) (here : item ≡ get_or page.items place item) (key : List ℕ) (is_key : key ≡ item.key) where
  pub IsCut-here : IsCut page.items key place
  IsCut-here = IsCut-at page.items is.ordered key place item (record { within = lt; found = λ d. sym (is_key ∙ ap (λ (x : Item). x.key) (get_or_read page.items place item lt here d)) })

  pub under_here : is_under key page.high ≡ true
  under_here =
      let within : IsTrue (is_in_range page.low page.high (get_or page.items place item).key) = is.within place item lt in
      let key_here : key ≡ (get_or page.items place item).key = is_key ∙ ap (λ (x : Item). x.key) here in
      rw key_here (and_right (not (is_below (get_or page.items place item).key page.low)) (is_under (get_or page.items place item).key page.high) within)
