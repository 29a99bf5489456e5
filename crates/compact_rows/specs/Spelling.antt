-- The compact spelling of a record: the words that it uses, and no others. docs/FORMATS.md has a table and worked rows.
use Rattle.std.specs.Prelude.{ℕ, ◌+◌, ◌*◌, ◌-◌, ◌/◌, List, [], ◌∷◌, ◌++◌, length, drop, Option, None, Some, if◌then◌else◌}
use Rattle.base_page.specs.declared.item.Content.{Content}
use Rattle.base_page.specs.declared.item.Content.TheVariants.{Value, Child}
use Rattle.base_page.specs.declared.item.Item.{Item}
use Rattle.base_page.specs.Rules.{is_held}
use Rattle.deltas.specs.declared.record.Record.{Record}
use Rattle.record_slots.specs.declared.row.Row.{Row}
use Rattle.record_slots.specs.Layout.{count_unit, form_unit, level_unit, no_bound}
use Rattle.record_slots.specs.Parts.{items_of, row_of}
use Rattle.record_slots.specs.Spelling.{big_endian, text_words}
use Rattle.compact_rows.specs.Layout.{compact_form, content_unit, first_unit, length_unit, mark_unit, next_unit, second_unit}

-- how many words of eight bytes so many bytes take
abbrev pub words_for : ℕ → ℕ
words_for count = (count + 7) / 8

-- the bytes of a text, in as many words as they take
abbrev pub packed : List ℕ → List ℕ
packed bytes = text_words (words_for (length bytes)) bytes

-- the head of an item: the first eight bytes of its key, which stand beside those of the other items
abbrev pub head_word : Item → ℕ
head_word item = big_endian 8 item.key

-- a value's length, or a child's PID
abbrev pub content_number : Content → ℕ
content_number (Value value) = length value
content_number (Child page held) = page

abbrev pub content_text : Content → List ℕ
content_text (Value value) = packed value
content_text (Child page held) = []

-- the text of an item: the other bytes of its key, and a value
abbrev pub item_text : Item → List ℕ
item_text item = packed (drop 8 item.key) ++ content_text item.content

-- the code of an item: where its text begins, the key's length, the mark of a held term, and a value's length or a child's PID
abbrev pub item_code : ℕ → Item → ℕ
item_code at item = at + length_unit * length item.key + (if is_held item.content then mark_unit else 0) + content_unit * content_number item.content

abbrev pub heads : List Item → List ℕ
heads [] = []
heads (item ∷ items) = head_word item ∷ heads items

-- the codes of the items whose texts begin at word `at`
abbrev pub codes : ℕ → List Item → List ℕ
codes at [] = []
codes at (item ∷ items) = item_code at item ∷ codes (at + length (item_text item)) items

abbrev pub texts : List Item → List ℕ
texts [] = []
texts (item ∷ items) = item_text item ++ texts items

abbrev pub bound_length : Option (List ℕ) → ℕ
bound_length None = no_bound
bound_length (Some key) = length key

abbrev pub bound_text : Option (List ℕ) → List ℕ
bound_text None = []
bound_text (Some key) = packed key

abbrev pub first_word : Row → ℕ
first_word row = row.kind + level_unit * row.level + count_unit * row.count + form_unit * compact_form + next_unit * row.next

abbrev pub second_word : Row → ℕ
second_word row = row.page + first_unit * length row.first + second_unit * bound_length row.second

-- where the texts of the items begin
abbrev pub texts_at : Row → ℕ
texts_at row = 2 + 2 * row.count + (length (packed row.first) + length (bound_text row.second))

-- A row: its numbers in two words, the items' heads, their codes, the two keys, and the items' texts.
abbrev pub compact_row : Row → List Item → List ℕ
compact_row row items = first_word row ∷ second_word row ∷ (heads items ++ (codes (texts_at row) items ++ (packed row.first ++ (bound_text row.second ++ texts items))))

abbrev pub compact_words : Record → List ℕ
compact_words content = compact_row (row_of content) (items_of content)
