-- The limits that are proposed for so many keys. docs/DECISIONS.md has the reasons.
use Rattle.std.specs.Prelude.{ℕ, ◌+◌, ◌-◌, ◌*◌, ◌/◌, ◌≤◌, ◌↔◌, ltb, max, if◌then◌else◌}
use Rattle.tree_limits.specs.Limits.{AreLargeLimits, AreLimits}

-- A split leaves 8 keys or more on both sides, so each leaf but one has the places of 8 keys that have been there.
abbrev pub leaves_for : ℕ → ℕ
leaves_for keys = keys / 8 + 1

-- The leaves, and the pages above them: a seventh, a seventh of that, and so on, which is a sixth, and the root.
abbrev pub pages_for : ℕ → ℕ
pages_for keys = leaves_for keys + leaves_for keys / 6 + 1

-- so many, up to the end of the last word of free bits
abbrev pub in_whole_words : ℕ → ℕ
in_whole_words count = (count + 63) / 64 * 64

-- PID 0, which is no page, the pages, and what each seat may hold back: one spare PID, and 10 in limbo.
abbrev pub pids_for : ℕ → ℕ → ℕ
pids_for actors keys = in_whole_words (1 + pages_for keys + 11 * actors)

-- The longest chain of each page, a base under 8 deltas, and what each seat may hold back: 2 spare rows, and 118 in limbo.
abbrev pub rows_for : ℕ → ℕ → ℕ
rows_for actors pids = in_whole_words (9 * pids + 120 * actors)

-- In a large tree there is room for a sixteenth more pages, so that a free number is found soon, and with several actors for 8192 more at least: as
-- long as one is stopped inside an operation, nothing is freed that the others take out. Each two updates may take the rows of such a page.
abbrev pub spare_pages_for : ℕ → ℕ → ℕ
spare_pages_for actors pages = max (pages / 16) (if ltb 1 actors then 8192 else 0)

-- Each seat may hold back twice as much.
abbrev pub large_pids_for : ℕ → ℕ → ℕ
large_pids_for actors keys = in_whole_words (1 + pages_for keys + spare_pages_for actors (pages_for keys) + 22 * actors)

-- The longest chain of each page of a large tree is a base under 2 deltas, and each seat may hold back 80 such chains: so many rows for deltas, and
-- so many for bases.
abbrev pub narrow_rows_for : ℕ → ℕ → ℕ
narrow_rows_for actors pids = in_whole_words (2 * (pids + 80 * actors))

abbrev pub page_rows_for : ℕ → ℕ → ℕ
page_rows_for actors pids = in_whole_words (pids + 80 * actors)

-- One wide row for each 64 pages, for pairs that are longer than the limits are proposed for.
abbrev pub wide_rows_for : ℕ → ℕ
wide_rows_for pids = in_whole_words (pids / 64)

abbrev pub large_rows_for : ℕ → ℕ → ℕ
large_rows_for actors pids = narrow_rows_for actors pids + page_rows_for actors pids + wide_rows_for pids

-- how many words of eight bytes a text takes that has so many bytes, and a key behind its first eight
abbrev pub text_words_for : ℕ → ℕ
text_words_for bytes = (bytes + 7) / 8

abbrev pub tail_words_for : ℕ → ℕ
tail_words_for bytes = (bytes - 8 + 7) / 8

-- so many words, up to the end of the last line of a cache, which has eight
abbrev pub in_whole_lines : ℕ → ℕ
in_whole_lines words = (words + 7) / 8 * 8

-- A row for deltas has room for a put of a pair whose key and value have so many bytes, and so for any other record of such a key but a base and a merge.
abbrev pub narrow_words_for : ℕ → ℕ → ℕ
narrow_words_for key value = in_whole_lines (4 + tail_words_for key + text_words_for value)

-- A row for bases has room for 19 such pairs, with two bounds of such keys. A base has no more, but for one of 20 that the merge of a page of 16 with
-- one of 4 makes, which may take a wide row.
abbrev pub page_words_for : ℕ → ℕ → ℕ
page_words_for key value = in_whole_lines (2 + 2 * text_words_for key + 19 * (2 + tail_words_for key + text_words_for value))

-- Limits of a large tree are proposed for so many actors and keys: those that the rule makes are limits of a large tree.
abbrev pub AreProposedLarge : ℕ → ℕ → Type 0
AreProposedLarge actors keys = AreLargeLimits actors (large_pids_for actors keys) (large_rows_for actors (large_pids_for actors keys)) 1

-- They are proposed for pairs of such lengths: there are such, and limits are proposed for so many keys.
pub record AreProposedPairs (actors keys key value : ℕ) : Type 0 where
  pub key_there : key ≤ 64
  pub value_there : value ≤ 64
  pub limits : AreProposedLarge actors keys

-- Limits are proposed for so many actors and keys: those that the rule makes are limits.
abbrev pub AreProposed : ℕ → ℕ → Type 0
AreProposed actors keys = AreLimits actors (pids_for actors keys) (rows_for actors (pids_for actors keys)) 1

-- They are proposed for so many keys, and for no more.
abbrev pub IsMostKeys : ℕ → ℕ → Type 0
IsMostKeys actors most = (keys : ℕ) → AreProposed actors keys ↔ keys ≤ most
