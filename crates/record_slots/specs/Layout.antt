-- The numbers of a row's layout, each in one place.
use Rattle.std.specs.Prelude.{◌≡◌, ◌≤◌, ◌++◌, ◌-◌, ℕ, List, drop, length, replicate}

-- A form of rows: its number, how many words of eight bytes a key or a value takes, and how many words a row has.
pub record Form : Type 0 where
  pub number : ℕ
  pub text_size : ℕ
  pub row_size : ℕ

-- how many words of eight bytes a key or a value takes
abbrev pub text_size : ℕ
text_size = 8

-- with its length
abbrev pub field_size : ℕ
field_size = 9

-- an item: its key, and its content
abbrev pub item_size : ℕ
item_size = 18

-- a row
abbrev pub row_size : ℕ
row_size = 512

-- where its last word, its keys and its items stand
abbrev pub last_at : ℕ
last_at = 511

abbrev pub first_at : ℕ
first_at = 3

abbrev pub second_at : ℕ
second_at = 12

abbrev pub items_at : ℕ
items_at = 21

-- the length that stands for no bound
abbrev pub no_bound : ℕ
no_bound = 255

-- the mark of a held term, beside its key's length
abbrev pub held_mark : ℕ
held_mark = 256

-- The kind, the level and the count of items, each in a part of the first word, are below it.
abbrev pub part_limit : ℕ
part_limit = 256

-- what the level, the count of items and the form count in the first word
abbrev pub level_unit : ℕ
level_unit = 256

abbrev pub count_unit : ℕ
count_unit = 65536

abbrev pub form_unit : ℕ
form_unit = 16777216

-- the form of today's rows
abbrev pub this_form : Form
this_form = record { number = 2; text_size = text_size; row_size = row_size }

-- the form of rows whose keys and values had 32 bytes at most
abbrev pub first_form : Form
first_form = record { number = 0; text_size = 4; row_size = 256 }

-- the row that begins with these words: zeros are behind them
abbrev pub with_zeros : List ℕ → List ℕ
with_zeros words = words ++ replicate (row_size - length words) 0

-- So many words of a row are written, and behind them are zeros.
pub record IsWrittenTo (count : ℕ) (words : List ℕ) : Type 0 where
  pub within : count ≤ row_size
  pub long : length words ≡ row_size
  pub zeros : drop count words ≡ replicate (row_size - count) 0
