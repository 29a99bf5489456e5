-- The record that words spell. Where they spell none it is some record, of which nothing is said.
use Rattle.std.specs.Prelude.{◌/◌, ◌%◌, ◌==◌, ℕ, zero, suc, List, [], ◌∷◌, false, if◌then◌else◌, nat_le, Option, None, Some, slice_index, take, drop}
use Rattle.base_page.specs.declared.item.Content.{Content}
use Rattle.base_page.specs.declared.item.Content.TheVariants.{Value, Child}
use Rattle.base_page.specs.declared.item.Item.{Item}
use Rattle.deltas.specs.declared.record.Record.{Record}
use Rattle.deltas.specs.declared.record.Record.TheVariants.{Base, Put, Delete, Split, Term, Hold, Remove, Merge, Unterm}
use Rattle.record_slots.specs.Texts.{bytes_of}
use Rattle.record_slots.specs.declared.layout.TheConstants.{FIRST_ITEM, FIRST_KEY, HELD, ITEM_CONTENT, ITEM_UNIT, ITEM_WORDS, LEVEL_UNIT, NO_BOUND, PART_LIMIT, SECOND_KEY, TEXT_WORDS}

-- the text of that length in its words
abbrev pub text_in : ℕ → List ℕ → List ℕ
text_in count words = take count (bytes_of (take TEXT_WORDS words))

-- the text, and the bound, of a field
abbrev pub field_in : List ℕ → List ℕ
field_in words = text_in (slice_index words 0) (drop 1 words)

abbrev pub bound_in : List ℕ → Option (List ℕ)
bound_in words = if slice_index words 0 == NO_BOUND then None else Some (field_in words)

abbrev pub page_or_none : ℕ → Option ℕ
page_or_none page = if page == 0 then None else Some page

-- the item of its words, on a level
abbrev pub item_in : ℕ → List ℕ → Item
item_in level words = record {
  key = text_in (slice_index words 0 % HELD) (drop 1 words);
  content = if level == 0 then Value (field_in (drop ITEM_CONTENT words)) else Child (slice_index words ITEM_CONTENT) (nat_le HELD (slice_index words 0));
}

abbrev pub items_in : ℕ → ℕ → List ℕ → List Item
items_in level zero words = []
items_in level (suc count) words = item_in level words ∷ items_in level count (drop ITEM_WORDS words)

-- what the first item has, if there is one
abbrev pub first_key : List Item → List ℕ
first_key [] = []
first_key (item ∷ items) = item.key

abbrev pub bytes_of_value : Content → List ℕ
bytes_of_value (Value value) = value
bytes_of_value (Child page held) = []

abbrev pub first_value : List Item → List ℕ
first_value [] = []
first_value (item ∷ items) = bytes_of_value item.content

-- the record of a kind, with these parts
abbrev pub record_from : ℕ → ℕ → ℕ → ℕ → List ℕ → Option (List ℕ) → List Item → Record
record_from kind level next page first second items =
    if kind == 1 then Base (record { level = level; low = first; high = second; right = page_or_none page; removed = false; items = items })
    else if kind == 2 then Put (record { next = next; key = first_key items; value = first_value items })
    else if kind == 3 then Delete (record { next = next; key = first })
    else if kind == 4 then Split (record { level = level; next = next; separator = first; page = page })
    else if kind == 5 then Term (record { level = level; next = next; separator = first; child = page })
    else if kind == 6 then Hold (record { level = level; next = next; separator = first; child = page })
    else if kind == 7 then Remove (record { level = level; next = next })
    else if kind == 8 then Merge (record { level = level; next = next; low = first; high = second; right = page_or_none page; items = items })
    else Unterm (record { level = level; next = next; separator = first; child = page })

abbrev pub kind_in : List ℕ → ℕ
kind_in words = slice_index words 0 % PART_LIMIT

abbrev pub level_of_words : List ℕ → ℕ
level_of_words words = slice_index words 0 / LEVEL_UNIT % PART_LIMIT

abbrev pub count_in : List ℕ → ℕ
count_in words = slice_index words 0 / ITEM_UNIT % PART_LIMIT

abbrev pub record_in : List ℕ → Record
record_in words =
    record_from (kind_in words) (level_of_words words) (slice_index words 1) (slice_index words 2) (field_in (drop FIRST_KEY words))
    (bound_in (drop SECOND_KEY words)) (items_in (level_of_words words) (count_in words) (drop FIRST_ITEM words))
