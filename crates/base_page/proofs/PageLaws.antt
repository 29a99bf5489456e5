-- What keeps a page a page.
use Rattle.std.proofs.Common.{◌≡◌, List, ℕ, Bool, ap, IsTrue, Some, None, Option, refl, sym, ◌∙◌}
use Rattle.std.specs.Prelude.{if◌then◌else◌}
use Rattle.std.specs.List.{AllByRecursion}
use Rattle.std.specs.Ordering.{is_eq}
use Rattle.std.proofs.lemmas.List.Elements.{All-from_recursion, recursion_from_All}
use Rattle.bw_model.specs.Bytes.{key_cmp, is_in_range, is_under}
use Rattle.base_page.specs.declared.item.Content.{Content}
use Rattle.base_page.specs.declared.item.Content.TheVariants.{Value, Child}
use Rattle.base_page.specs.declared.item.Item.{Item}
use Rattle.base_page.specs.Pages.{Page, IsPage, AreItems, IsOfLevel, child_in, content_at, content_held}
use Rattle.base_page.proofs.KeyLaws.{either, same}
use Rattle.base_page.proofs.ItemLaws.{all-both, all-weaker, Ascends-from, of_content, all_contents}

-- the item is in the range of the page and of its level
pub record Belongs (page : Page) (item : Item) : Type 0 where
  pub within : IsTrue (is_in_range page.low page.high item.key)
  pub kind : IsOfLevel page.level item.content

pub all_belong : (page : Page) → IsPage page → AllByRecursion (Belongs page) page.items
all_belong page is = all-both (λ (item : Item). IsTrue (is_in_range page.low page.high item.key)) (λ (item : Item). IsOfLevel page.level item.content) (Belongs page)
    (λ item within kind. record { within = within; kind = kind }) page.items (recursion_from_All _ page.items is.within) (recursion_from_All _ page.items is.kinds)

pub IsPage-from : (page : Page) → IsTrue (is_under page.low page.high) → AreItems page.items → AllByRecursion (Belongs page) page.items → IsPage page
IsPage-from page spans are all = record {
  spans = spans;
  ordered = are;
  within = All-from_recursion (λ (item : Item). IsTrue (is_in_range page.low page.high item.key)) page.items (all-weaker _ _ (λ (item : Item) b. b.within) page.items all);
  kinds = All-from_recursion (λ (item : Item). IsOfLevel page.level item.content) page.items (all-weaker _ _ (λ (item : Item) b. b.kind) page.items all);
}

-- each content of the page belongs to it
pub belongs : (page : Page) → IsPage page → (q : List ℕ) (content : Content) → content_at page.items q ≡ Some content → Belongs page (record { key = q; content = content })
belongs page is q content h = of_content (Belongs page) page.items q content (all_belong page is) h

pub IsPage-from_contents : (page : Page) → IsTrue (is_under page.low page.high) → AreItems page.items
    → ((q : List ℕ) (content : Content) → content_at page.items q ≡ Some content → Belongs page (record { key = q; content = content })) → IsPage page
IsPage-from_contents page spans are f = IsPage-from page spans are (all_contents (Belongs page) page.items (Ascends-from page.items are.ascending) f)

module _ (page : Page) (is : IsPage page) (items : List Item) (are : AreItems items) (key : List ℕ) where
  pub IsPage-put : (content : Content) → IsTrue (is_in_range page.low page.high key) → IsOfLevel page.level content
      → ((q : List ℕ) → content_at items q ≡ (if is_eq (key_cmp q key) then Some content else content_at page.items q)) → IsPage (record page { items = items })
  IsPage-put content covered kind contents = IsPage-from_contents (record page { items = items }) is.spans are (λ q found h. either (is_eq (key_cmp q key))
      (λ yes.
      let key_is : q ≡ key = same q key yes in
      let is' : Some content ≡ Some found = sym (rw yes at (contents q)) ∙ h in
      let found_is : content ≡ found = cc in
      record { within = rw key_is covered; kind = rw (← found_is) kind })
      (λ no. let b = belongs page is q found (sym (rw no at (contents q)) ∙ h) in record { within = b.within; kind = b.kind }))

  pub IsPage-remove : ((q : List ℕ) → content_at items q ≡ (if is_eq (key_cmp q key) then None else content_at page.items q)) → IsPage (record page { items = items })
  IsPage-remove contents = IsPage-from_contents (record page { items = items }) is.spans are (λ q found h. either (is_eq (key_cmp q key))
      (λ yes. let none : None ≡ Some found = sym (rw yes at (contents q)) ∙ h in cc)
      (λ no. let b = belongs page is q found (sym (rw no at (contents q)) ∙ h) in record { within = b.within; kind = b.kind }))

-- a page is as it was where nothing was to be held
pub held_none : (items : List Item) (key : List ℕ) → child_in (content_at items key) ≡ None → (q : List ℕ)
    → content_at items q ≡ (if is_eq (key_cmp q key) then content_held (content_at items key) else content_at items q)
held_none items key h q = either (is_eq (key_cmp q key))
    (λ yes. rw (yes, same q key yes) (sym (not_child (content_at items key) h)))
    (λ no. rw no refl)
  where
    not_child : (r : Option Content) → child_in r ≡ None → content_held r ≡ r
    not_child None h = refl
    not_child (Some (Value value)) h = refl
    not_child (Some (Child child mark)) h = cc

pub child_there : (r : Option Content) (child : ℕ) → child_in r ≡ Some child → (mark : Bool) × (r ≡ Some (Child child mark))
child_there None child h = cc
child_there (Some (Value value)) child h = cc
child_there (Some (Child other mark)) child h = let is : other ≡ child = cc in (mark, ap (λ n. Some (Child n mark)) is)
