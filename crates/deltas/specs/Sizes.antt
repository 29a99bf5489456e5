-- How many words a record takes in a compact row, and the first row that has room for so many.
use Rattle.std.specs.Prelude.{◌+◌, ◌-◌, ◌/◌, ℕ, ltb, if◌then◌else◌, List, [], ◌∷◌, length, Option, None, Some}
use Rattle.tree_limits.specs.declared.limits.Limits.{Limits}
use Rattle.base_page.specs.declared.item.Content.{Content}
use Rattle.base_page.specs.declared.item.Content.TheVariants.{Value, Child}
use Rattle.base_page.specs.declared.item.Item.{Item}
use Rattle.deltas.specs.declared.record.Record.{Record}
use Rattle.deltas.specs.declared.record.Record.TheVariants.{Base, Put, Delete, Split, Term, Hold, Remove, Merge, Unterm}

-- how many words of eight bytes a text takes
abbrev pub text_size : List ℕ → ℕ
text_size text = (length text + 7) / 8

abbrev pub bound_size : Option (List ℕ) → ℕ
bound_size None = 0
bound_size (Some key) = text_size key

abbrev pub content_size : Content → ℕ
content_size (Value value) = text_size value
content_size (Child page held) = 0

-- how many words of eight bytes a key takes behind its first one
abbrev pub tail_size : List ℕ → ℕ
tail_size key = (length key - 8 + 7) / 8

-- An item takes a word for the first eight bytes of its key, one for its numbers, and those of the rest of its key and of its value.
abbrev pub item_size : Item → ℕ
item_size item = 2 + tail_size item.key + content_size item.content

abbrev pub items_size : List Item → ℕ
items_size [] = 0
items_size (item ∷ items) = item_size item + items_size items

-- a page takes two words for its numbers, and those of its range and its items
abbrev pub page_size : List ℕ → Option (List ℕ) → List Item → ℕ
page_size low high items = 2 + (text_size low + bound_size high) + items_size items

-- Each record takes two words for its numbers, and those of its keys and items.
abbrev pub record_size : Record → ℕ
record_size (Base page) = page_size page.low page.high page.items
record_size (Put put) = 4 + tail_size put.key + text_size put.value
record_size (Delete delete) = 2 + text_size delete.key
record_size (Split split) = 2 + text_size split.separator
record_size (Term term) = 2 + text_size term.separator
record_size (Hold hold) = 2 + text_size hold.separator
record_size (Remove remove) = 2
record_size (Merge merge) = page_size merge.low merge.high merge.items
record_size (Unterm unterm) = 2 + text_size unterm.separator

-- the first row that isn't narrow and has room for so many words
abbrev pub page_row : Limits → ℕ → ℕ
page_row limits size = if ltb limits.page_words size then limits.wide_from else limits.narrow_rows

-- the first row that has room for so many words, where a row that isn't narrow has room for them
abbrev pub delta_row : Limits → ℕ → ℕ
delta_row limits size = if ltb limits.narrow_words size then limits.narrow_rows else 0

-- The first row that has room for a record: from there on each row has. A base or a merge is placed in no narrow row, and any other record takes at
-- most 19 words, so that each row that isn't narrow has room for it.
abbrev pub row_from : Limits → Record → ℕ
row_from limits (Base page) = page_row limits (record_size (Base page))
row_from limits (Merge merge) = page_row limits (record_size (Merge merge))
row_from limits content = delta_row limits (record_size content)
