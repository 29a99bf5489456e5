-- The numbers that limits may have.
use Rattle.std.specs.Prelude.{◌≡◌, ℕ, ◌≤◌, ◌<◌, ◌%◌, ◌^◌}
use Rattle.tree_limits.specs.declared.limits.TheConstants.{WIDE_WORDS}

-- how many actors a tree has at most
abbrev pub most_actors : ℕ
most_actors = 16

-- A large tree has as many as there are words below the rows for what actors announce: the word of one more would be the first row's.
abbrev pub most_large_actors : ℕ
most_large_actors = 63

pub record AreLimits (actors pids rows epoch : ℕ) : Type 0 where
  pub some_actor : 1 ≤ actors
  pub few_actors : actors ≤ most_actors
  pub some_pids : 64 ≤ pids
  pub few_pids : pids ≤ 4096
  pub whole_pids : pids % 64 ≡ 0
  pub some_rows : 64 ≤ rows
  pub few_rows : rows ≤ 16384
  pub whole_rows : rows % 64 ≡ 0
  pub some_epoch : 1 ≤ epoch
  pub small_epoch : epoch ≤ 2 ^ 62

-- The numbers that limits of a large tree may have.
pub record AreLargeLimits (actors pids rows epoch : ℕ) : Type 0 where
  pub some_actor : 1 ≤ actors
  pub few_actors : actors ≤ most_large_actors
  pub some_pids : 64 ≤ pids
  pub few_pids : pids ≤ 4194304
  pub whole_pids : pids % 64 ≡ 0
  pub some_rows : 64 ≤ rows
  pub few_rows : rows ≤ 67108864
  pub whole_rows : rows % 64 ≡ 0
  pub some_epoch : 1 ≤ epoch
  pub small_epoch : epoch ≤ 2 ^ 62

-- The widths that rows of a large tree have by their numbers: rows below `narrow_rows` have `narrow_words` words, those from there on and
-- below `wide_from` have `page_words`, and those from `wide_from` on are wide: each record has room in them. Each width begins at a whole
-- word of bits, some row is wide, and a row that isn't narrow has room for each record but a base and a merge.
pub record AreWidths (rows narrow_rows wide_from narrow_words page_words : ℕ) : Type 0 where
  pub whole_narrow : narrow_rows % 64 ≡ 0
  pub whole_pages : wide_from % 64 ≡ 0
  pub ordered : narrow_rows ≤ wide_from
  pub some_wide : wide_from < rows
  pub narrow_room : 8 ≤ narrow_words
  pub page_room : 24 ≤ page_words
  pub widening : narrow_words ≤ page_words
  pub fitting : page_words ≤ WIDE_WORDS

-- All rows are wide.
pub record IsOneWidth (narrow_rows wide_from : ℕ) : Type 0 where
  pub narrow : narrow_rows ≡ 0
  pub pages : wide_from ≡ 0
