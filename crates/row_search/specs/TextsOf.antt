-- The texts of a record, and where its spelling has them.
use Rattle.std.specs.Prelude.{◌<◌, ◌+◌, ◌*◌, ℕ, length, ⊤}
use Rattle.deltas.specs.declared.record.Record.{Record}
use Rattle.record_slots.specs.Layout.{field_size, first_at, item_size, items_at, second_at}
use Rattle.record_slots.specs.Parts.{items_of}
use Rattle.row_search.specs.declared.rows.Text.{Text}
use Rattle.row_search.specs.declared.rows.Text.TheVariants.{First, Second, Key, Content}

-- where the length of a text stands; its words stand behind that
abbrev pub length_at : Text → ℕ
length_at First = first_at
length_at Second = second_at
length_at (Key item) = items_at + item_size * item
length_at (Content item) = items_at + item_size * item + field_size

-- The record has an item with this number.
abbrev pub HasText : Text → Record → Type 0
HasText First content = ⊤
HasText Second content = ⊤
HasText (Key item) content = item < length (items_of content)
HasText (Content item) content = item < length (items_of content)
