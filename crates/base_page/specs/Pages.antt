-- What a page is, and what it has at a key.
use Rattle.std.specs.Prelude.{◌≡◌, ◌≤◌, ◌<◌, ℕ, List, [], ◌∷◌, Bool, true, false, if◌then◌else◌, Option, None, Some, IsTrue, length, map}
use Rattle.std.specs.List.{All}
use Rattle.std.specs.List.Sorted.{IsStrictlySortedBy}
use Rattle.std.specs.Ordering.{is_eq}
use Rattle.bw_model.specs.Bytes.{key_cmp, is_in_range, is_under}
use Rattle.base_page.specs.declared.item.Content.{Content}
use Rattle.base_page.specs.declared.item.Content.TheVariants.{Value, Child}
use Rattle.base_page.specs.declared.item.Item.{Item}

-- The items of the keys from low up to high, on a level; 0 is the level of leaves. The right is the PID of the next page.
pub record Page : Type 0 where
  pub level : ℕ
  pub low : List ℕ
  pub high : Option (List ℕ)
  pub right : Option ℕ
  pub removed : Bool
  pub items : List Item

-- the content of the item with the key, if there is one
abbrev pub content_at : List Item → List ℕ → Option Content
content_at [] key = None
content_at (item ∷ items) key = if is_eq (key_cmp key item.key) then Some item.content else content_at items key

-- the value that a content is, and the child; none where it is the other
abbrev pub value_in : Option Content → Option (List ℕ)
value_in (Some (Value value)) = Some value
value_in (Some (Child page held)) = None
value_in None = None

abbrev pub child_in : Option Content → Option ℕ
child_in (Some (Value value)) = None
child_in (Some (Child page held)) = Some page
child_in None = None

-- the same content, held where it is a child
abbrev pub content_held : Option Content → Option Content
content_held (Some (Value value)) = Some (Value value)
content_held (Some (Child page mark)) = Some (Child page true)
content_held None = None

-- each item's key is below those after it
abbrev pub IsAscending : List Item → Type 0
IsAscending items = IsStrictlySortedBy key_cmp (map (λ item. item.key) items)

-- a leaf has values, an index page has children
abbrev pub IsOfLevel : ℕ → Content → Type 0
IsOfLevel level (Value value) = level ≡ 0
IsOfLevel level (Child page held) = 0 < level

-- The items of one page: few, and in order.
pub record AreItems (items : List Item) : Type 0 where
  pub few : length items ≤ 24
  pub ascending : IsAscending items

-- The low key is below the high one. The items are few and in order, and each is in the range and of the page's level.
pub record IsPage (page : Page) : Type 0 where
  pub spans : IsTrue (is_under page.low page.high)
  pub ordered : AreItems page.items
  pub within : All (λ item. IsTrue (is_in_range page.low page.high item.key)) page.items
  pub kinds : All (λ item. IsOfLevel page.level item.content) page.items

-- the page that opens a tree: an empty leaf over all keys
abbrev pub empty_leaf : Page
empty_leaf = record { level = 0; low = []; high = None; right = None; removed = false; items = [] }
