-- The numbers of a compact row's layout, each in one place.
use Rattle.std.specs.Prelude.{◌≡◌, ◌≤◌, ℕ, List, length}

-- how many words a record takes at most
abbrev pub most_words : ℕ
most_words = 512

-- the form of compact rows
abbrev pub compact_form : ℕ
compact_form = 3

-- the unit of the next row in the first word, above the kind, the level, the count of items and the form
abbrev pub next_unit : ℕ
next_unit = 4294967296

-- the units of the lengths of the two keys in the second word, above a PID
abbrev pub first_unit : ℕ
first_unit = 4294967296

abbrev pub second_unit : ℕ
second_unit = 1099511627776

-- the units of the length of an item's key, of the mark of a held term, and of a value's length or a child's PID in the item's code, above
-- the place of its text
abbrev pub length_unit : ℕ
length_unit = 65536

abbrev pub mark_unit : ℕ
mark_unit = 16777216

abbrev pub content_unit : ℕ
content_unit = 4294967296

-- So many of the words are written.
pub record IsFilledTo (count : ℕ) (words : List ℕ) : Type 0 where
  pub within : count ≤ most_words
  pub long : length words ≡ most_words
