-- How often the tree is changed, and numbers are taken, in all.
use Rattle.std.specs.Prelude.{◌≤◌, ◌+◌, ◌*◌, ℕ, List, length, slice_range, take}
use Rattle.std.specs.List.{count_by}
use Rattle.tree_limits.specs.declared.limits.Limits.{Limits}
use Rattle.traces.specs.declared.trace.Entry.{Entry}
use Rattle.linearization.specs.Progress.{AreAmong, ChangesTree, is_begin, takes_number}

-- All operations together change the tree at most 8 times for each that was begun. From any moment on they change it at most 154 times for each
-- page that there may be, 8 times for each actor, and 8 times for each operation that was begun since. They take at most 24 rows and PIDs for each
-- that was begun, besides as many as there are.
pub record HasFewChanges (limits : Limits) (entries : List Entry) : Type 0 where
  pub few : (n : ℕ) (changes : List ℕ) → AreAmong limits entries 0 n ChangesTree changes → length changes ≤ 8 * count_by is_begin (take n entries)
  pub since : (m n : ℕ) (changes : List ℕ) → m ≤ n → AreAmong limits entries m n ChangesTree changes
      → length changes ≤ 154 * limits.pids + 8 * (limits.actors + count_by is_begin (slice_range entries m n))
  pub takes : (n : ℕ) → count_by takes_number (take n entries) ≤ limits.rows + limits.pids + 24 * count_by is_begin (take n entries)
