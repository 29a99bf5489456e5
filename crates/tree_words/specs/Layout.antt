-- Where each part of a memory has its words, in a table of these limits.
use Rattle.std.specs.Prelude.{◌≡◌, ◌≢◌, ◌<◌, ◌+◌, ◌-◌, ◌*◌, ◌/◌, ℕ, ltb, if◌then◌else◌}
use Rattle.tree_limits.specs.declared.limits.Limits.{Limits}
use Rattle.tree_limits.specs.Limits.{most_large_actors}
use Rattle.record_slots.specs.Layout.{row_size}

-- There are the epoch, the announced epochs of as many actors as a large tree may have, one at every eighth word, and from word 512 on
-- the rows; then the slots, the words of free PIDs, and those of free rows. A small tree has the same layout.
abbrev pub epoch_at : ℕ
epoch_at = 0

abbrev pub announced_at : ℕ → ℕ
announced_at actor = 8 + 8 * actor

abbrev pub rows_at : ℕ
rows_at = announced_at most_large_actors

-- How many words a row has, by its number: narrow rows come first, then those for pages, then the wide ones. Where all rows have one width
-- they are wide.
abbrev pub width_of : Limits → ℕ → ℕ
width_of limits row = if ltb row limits.narrow_rows then limits.narrow_words else if ltb row limits.wide_from then limits.page_words else row_size

-- how many words the rows below this one have
unfoldable pub rows_width : Limits → ℕ → ℕ
rows_width limits row =
    if ltb row limits.narrow_rows then limits.narrow_words * row else if ltb row limits.wide_from then
    limits.narrow_words * limits.narrow_rows + limits.page_words * (row - limits.narrow_rows) else
    limits.narrow_words * limits.narrow_rows + limits.page_words * (limits.wide_from - limits.narrow_rows) + row_size * (row - limits.wide_from)

abbrev pub row_at : Limits → ℕ → ℕ → ℕ
row_at limits row j = rows_at + (rows_width limits row + j)

abbrev pub slot_at : Limits → ℕ → ℕ
slot_at limits pid = rows_at + rows_width limits limits.rows + pid

abbrev pub pid_bits_at : Limits → ℕ → ℕ
pid_bits_at limits word = rows_at + rows_width limits limits.rows + limits.pids + word

abbrev pub row_bits_at : Limits → ℕ → ℕ
row_bits_at limits word = rows_at + rows_width limits limits.rows + limits.pids + limits.pids / 64 + word

-- how many words a table has
abbrev pub width : Limits → ℕ
width limits = rows_at + rows_width limits limits.rows + limits.pids + limits.pids / 64 + limits.rows / 64

-- a word that no part has
abbrev pub IsPad : ℕ → Type 0
IsPad i = (epoch_at < i) × (i < rows_at) × ((actor : ℕ) → actor < most_large_actors → i ≢ announced_at actor)

-- the places that are worked out once: of the first row that is no narrow one, of the first wide row, and of the first slot
pub record IsWorkedOut (limits : Limits) (pages_at wide_at slots_at : ℕ) : Type 0 where
  pub pages : pages_at ≡ row_at limits limits.narrow_rows 0
  pub wide : wide_at ≡ row_at limits limits.wide_from 0
  pub slots : slots_at ≡ slot_at limits 0
