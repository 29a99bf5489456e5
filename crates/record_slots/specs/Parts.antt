-- The parts of a row, whatever its kind.
use Rattle.std.specs.Prelude.{◌≡◌, ◌≢◌, ◌==◌, ◌<◌, ◌≤◌, ◌+◌, ◌*◌, ℕ, Bool, true, ◌&&◌, ◌⊎◌, List, [], ◌∷◌, length, Option, Some, IfSome, unwrap_or, get_or, take, drop, replicate}
use Rattle.std.specs.List.{All}
use Rattle.bw_model.specs.Bytes.{IsShort}
use Rattle.base_page.specs.declared.item.Content.{Content}
use Rattle.base_page.specs.declared.item.Content.TheVariants.{Value}
use Rattle.base_page.specs.declared.item.Item.{Item}
use Rattle.base_page.specs.Pages.{IsOfLevel}
use Rattle.base_page.specs.Rules.{is_held}
use Rattle.deltas.specs.Spellable.{IsPid, HasPid, IsSpellable}
use Rattle.deltas.specs.declared.record.Record.{Record}
use Rattle.deltas.specs.declared.record.Record.TheVariants.{Base, Put, Delete, Split, Term, Hold, Remove, Merge, Unterm}
use Rattle.record_slots.specs.declared.row.Header.{Header}
use Rattle.record_slots.specs.declared.row.Row.{Row}
use Rattle.record_slots.specs.Layout.{count_unit, field_size, first_at, form_unit, item_size, items_at, level_unit, part_limit, second_at, text_size, this_form}
use Rattle.record_slots.specs.Spelling.{field_words, bound_words, content_words, item_words, items_words, words_left}
use Rattle.record_slots.specs.Spells.{HasShortTexts, IsShortContent, IsShortItem}

-- An item of a page of the level: its texts are short, and its child is a page.
pub record IsItem (level : ℕ) (item : Item) : Type 0 where
  pub short : IsShortItem item
  pub kind : IsOfLevel level item.content
  pub child : HasPid item.content

-- the words spell a child's PID, what such an item has at its key, such an item, and such items
pub record IsChildIn (words : List ℕ) (page : ℕ) : Type 0 where
  pub pid : IsPid page
  pub are : page ∷ replicate text_size 0 ≡ words

pub record IsContentIn (level : ℕ) (held : Bool) (words : List ℕ) (content : Content) : Type 0 where
  pub short : IsShortContent content
  pub kind : IsOfLevel level content
  pub child : HasPid content
  pub mark : is_held content ≡ held
  pub are : content_words content ≡ words

pub record IsItemIn (level : ℕ) (words : List ℕ) (item : Item) : Type 0 where
  pub is : IsItem level item
  pub are : item_words item ≡ words

pub record AreItemsIn (level count : ℕ) (words : List ℕ) (items : List Item) : Type 0 where
  pub counts : length items ≡ count
  pub each : All (IsItem level) items
  pub are : items_words items ≡ words

-- nothing stands in the words
abbrev pub are_zeros : List ℕ → Bool
are_zeros [] = true
are_zeros (word ∷ words) = (word == 0) && are_zeros words

-- the number, which is below the limit
pub record IsNumberIn (word limit number : ℕ) : Type 0 where
  pub below : number < limit
  pub are : number ≡ word

-- the first word of a row of today's form
abbrev pub header_word : ℕ → ℕ → ℕ → ℕ
header_word kind level count = kind + level_unit * level + count_unit * count + form_unit * this_form.number

-- what stands in the first word
pub record IsHeaderIn (word : ℕ) (header : Header) : Type 0 where
  pub kind : header.kind < part_limit
  pub level : header.level ≤ 15
  pub few : header.count ≤ 24
  pub are : header_word header.kind header.level header.count ≡ word

-- The numbers are in their ranges, and the texts are short.
pub record IsRowOfParts (row : Row) : Type 0 where
  pub kind : row.kind < part_limit
  pub level : row.level ≤ 15
  pub few : row.count ≤ 24
  pub next : row.next < 67108864
  pub page : row.page < 4194304
  pub first : IsShort row.first
  pub second : IfSome row.second IsShort

-- Such parts stand in the words before the items, and nothing behind the items.
pub record IsRowIn (words : List ℕ) (row : Row) : Type 0 where
  pub is : IsRowOfParts row
  pub header : header_word row.kind row.level row.count ≡ get_or words 0 0
  pub next : row.next ≡ get_or words 1 0
  pub page : row.page ≡ get_or words 2 0
  pub first : field_words row.first ≡ take field_size (drop first_at words)
  pub second : bound_words row.second ≡ take field_size (drop second_at words)
  pub rest : drop (items_at + item_size * row.count) words ≡ replicate (words_left row.count) 0

-- the parts and the items that each kind of record has
abbrev pub row_of : Record → Row
row_of (Base page) = record { kind = 1; level = page.level; count = length page.items; next = 0; page = unwrap_or page.right 0; first = page.low; second = page.high }
row_of (Put put) = record { kind = 2; level = 0; count = 1; next = put.next; page = 0; first = []; second = Some [] }
row_of (Delete delete) = record { kind = 3; level = 0; count = 0; next = delete.next; page = 0; first = delete.key; second = Some [] }
row_of (Split split) = record { kind = 4; level = split.level; count = 0; next = split.next; page = split.page; first = split.separator; second = Some [] }
row_of (Term term) = record { kind = 5; level = term.level; count = 0; next = term.next; page = term.child; first = term.separator; second = Some [] }
row_of (Hold hold) = record { kind = 6; level = hold.level; count = 0; next = hold.next; page = hold.child; first = hold.separator; second = Some [] }
row_of (Remove remove) = record { kind = 7; level = remove.level; count = 0; next = remove.next; page = 0; first = []; second = Some [] }
row_of (Merge merge) = record { kind = 8; level = merge.level; count = length merge.items; next = merge.next; page = unwrap_or merge.right 0; first = merge.low; second = merge.high }
row_of (Unterm unterm) = record { kind = 9; level = unterm.level; count = 0; next = unterm.next; page = unterm.child; first = unterm.separator; second = Some [] }

abbrev pub items_of : Record → List Item
items_of (Base page) = page.items
items_of (Put put) = record { key = put.key; content = Value put.value } ∷ []
items_of (Merge merge) = merge.items
items_of content = []

-- A row can spell the record, which has these parts, and these words spell its items.
pub record IsRecordOf (row : Row) (words : List ℕ) (content : Record) : Type 0 where
  pub spellable : IsSpellable content
  pub short : HasShortTexts content
  pub are : row_of content ≡ row
  pub items : items_words (items_of content) ≡ words

-- no second key and no items
pub record IsBare (row : Row) : Type 0 where
  pub second : row.second ≡ Some []
  pub items : row.count ≡ 0

-- the kinds of records that name a separator and a page
abbrev pub IsLinkKind : ℕ → Type 0
IsLinkKind kind = (kind ≡ 4) ⊎ (kind ≡ 5) ⊎ (kind ≡ 6) ⊎ (kind ≡ 9)

-- a row under it, a page, a key that isn't empty, and nothing else
pub record IsLinkOf (row : Row) : Type 0 where
  pub next : 0 < row.next
  pub page : 0 < row.page
  pub above : row.first ≢ []
  pub bare : IsBare row

-- the right that the number stands for: 0 for none
pub record IsRightIn (page : ℕ) (right : Option ℕ) : Type 0 where
  pub pid : IfSome right IsPid
  pub is : unwrap_or right 0 ≡ page
