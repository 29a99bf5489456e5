-- Each word of the row of record_slots (`words_of`), computed from the compact words of the same record.
use Rattle.std.specs.Prelude.{ℕ, ◌+◌, ◌*◌, ◌-◌, ◌/◌, ◌%◌, ◌==◌, List, if◌then◌else◌, ltb, slice_index}
use Rattle.record_slots.specs.Layout.{count_unit, form_unit, item_size, items_at, level_unit, no_bound, part_limit, this_form}
use Rattle.compact_rows.specs.Layout.{content_unit, first_unit, length_unit, next_unit, second_unit}
use Rattle.compact_rows.specs.Spelling.{words_for}

-- word j of a text of `size` words, which begins at word `at`; 0 behind its end
abbrev pub text_seen : List ℕ → ℕ → ℕ → ℕ → ℕ
text_seen words at size j = if ltb j size then slice_index words (at + j) else 0

-- how many words a bound takes whose length this is
abbrev pub bound_size : ℕ → ℕ
bound_size count = if count == no_bound then 0 else words_for count

abbrev pub level_seen : List ℕ → ℕ
level_seen words = slice_index words 0 / level_unit % part_limit

abbrev pub count_seen : List ℕ → ℕ
count_seen words = slice_index words 0 / count_unit % part_limit

abbrev pub first_length : List ℕ → ℕ
first_length words = slice_index words 1 / first_unit % part_limit

abbrev pub second_length : List ℕ → ℕ
second_length words = slice_index words 1 / second_unit

-- where the first key stands, and the second one
abbrev pub first_text_at : List ℕ → ℕ
first_text_at words = 2 + 2 * count_seen words

abbrev pub second_text_at : List ℕ → ℕ
second_text_at words = 2 + 2 * count_seen words + words_for (first_length words)

-- the words of the first key, of the second one
abbrev pub first_seen : List ℕ → ℕ → ℕ
first_seen words j = text_seen words (first_text_at words) (words_for (first_length words)) j

abbrev pub second_seen : List ℕ → ℕ → ℕ
second_seen words j = text_seen words (second_text_at words) (bound_size (second_length words)) j

-- Of an item's code: where its text begins, its key's length, how many words of the key stand there, and a value's length or a child's PID.
abbrev pub code_at : ℕ → ℕ
code_at code = code % length_unit

abbrev pub code_length : ℕ → ℕ
code_length code = code / length_unit % part_limit

abbrev pub code_tail : ℕ → ℕ
code_tail code = words_for (code_length code - 8)

abbrev pub code_number : ℕ → ℕ
code_number code = code / content_unit

-- the words of a value; a child has none
abbrev pub value_seen : List ℕ → ℕ → ℕ → ℕ → ℕ
value_seen words level code j = if level == 0 then text_seen words (code_at code + code_tail code) (words_for (code_number code)) j else 0

-- word j of an item, by its head and its code
abbrev pub item_seen : List ℕ → ℕ → ℕ → ℕ → ℕ → ℕ
item_seen words level head code j =
    if j == 0 then code / length_unit % length_unit
    else if j == 1 then head
    else if ltb j 9 then text_seen words (code_at code) (code_tail code) (j - 2)
    else if j == 9 then code_number code
    else value_seen words level code (j - 10)

-- word j of the item with this number
abbrev pub place_seen : List ℕ → ℕ → ℕ → ℕ
place_seen words place j =
    if ltb place (count_seen words) then item_seen words (level_seen words) (slice_index words (2 + place)) (slice_index words (2 + count_seen words + place)) j else 0

-- word k behind the two keys
abbrev pub items_seen : List ℕ → ℕ → ℕ
items_seen words k = place_seen words (k / item_size) (k % item_size)

-- word `at` of the row of record_slots that spells the same record
abbrev pub seen : List ℕ → ℕ → ℕ
seen words at =
    if at == 0 then slice_index words 0 % form_unit + form_unit * this_form.number
    else if at == 1 then slice_index words 0 / next_unit
    else if at == 2 then slice_index words 1 % first_unit
    else if at == 3 then first_length words
    else if ltb at 12 then first_seen words (at - 4)
    else if at == 12 then second_length words
    else if ltb at 21 then second_seen words (at - 13)
    else items_seen words (at - items_at)

-- word j of the key of the item with this number, and of its content
abbrev pub key_seen : List ℕ → ℕ → ℕ → ℕ
key_seen words item j =
    if j == 0 then slice_index words (2 + item)
    else text_seen words (code_at (slice_index words (2 + count_seen words + item))) (code_tail (slice_index words (2 + count_seen words + item))) (j - 1)

abbrev pub content_seen : List ℕ → ℕ → ℕ → ℕ
content_seen words item j = value_seen words (level_seen words) (slice_index words (2 + count_seen words + item)) j
