-- The words of a closed table as a memory, and what a closed tree has.
use Rattle.std.specs.Prelude.{◌≡◌, ◌<◌, ◌≤◌, ℕ, Bool, true, false, List, Option, Some, length, slice_get, slice_index_or}
use Rattle.tree_limits.specs.declared.limits.Limits.{Limits}
use Rattle.deltas.specs.declared.record.Record.{Record}
use Rattle.deltas.specs.Memory.{Memory}
use Rattle.traces.specs.declared.trace.Entry.{Entry}
use Rattle.traces.specs.discipline.Disciplined.{Extends}
use Rattle.traces.specs.trace.Trace.{memory_of}
use Rattle.listing.specs.Listed.{IsAmong, IsListedPage, IsListing}
use Rattle.table_rule.specs.Running.{IsSpelledRow}
use Rattle.tree_law.specs.Leaves.{HasLeafPages}
use Rattle.tree_words.specs.Words.{AreWordsOf}
use Rattle.running_tree.specs.Runs.{IsOneHistory, IsSeenRun}
use Rattle.running_tree.specs.Seats.{Seat}

-- Each of so many places holds its word.
abbrev pub AreFilled : List Bool → ℕ → Type 0
AreFilled filled count = (place : ℕ) → 0 ≤ place → place < count → slice_index_or filled place false ≡ true

-- The words are those of the memory, and each record of it has words.
pub record KeepMemory (limits : Limits) (words : List ℕ) (memory : Memory) : Type 0 where
  pub are : AreWordsOf limits memory words
  pub kept : (row : ℕ) (content : Record) → memory.rows row ≡ Some content → IsSpelledRow limits row content

-- a closed tree: its limits, and the words that it was left with
pub record ClosedTree : Type 0 where
  pub limits : Limits
  pub words : List ℕ

-- The run may have left the tree as it is: its memory has these words.
pub record IsLeftBy (closed : ClosedTree) (run : List Entry) : Type 0 where
  pub seen : IsSeenRun closed.limits run
  pub keeps : KeepMemory closed.limits closed.words (memory_of closed.limits run)

-- What a closed tree keeps: each of its words, which a run has left, no value beside them, and the PID of a leaf.
pub record HoldsTree (closed : ClosedTree) (filled : List Bool) (count values leaf : ℕ) : Type 0 where
  pub full : AreFilled filled count
  pub none : values ≡ 0
  pub left : (run : List Entry) × IsLeftBy closed run
  pub near : (memory : Memory) → KeepMemory closed.limits closed.words memory → (leaves : HasLeafPages closed.limits memory) → IsAmong memory leaves.pages leaf

-- A tree was closed with all its seats: one run has left it, which goes on from what each of the seats has seen by steps of others alone.
pub record IsClosedWith (given : Limits) (seats : List Seat) (closed : ClosedTree) : Type 0 where
  pub limits : closed.limits ≡ given
  pub run : List Entry
  pub left : IsLeftBy closed run
  pub history : IsOneHistory given run
  pub extends : (n : ℕ) (seat : Seat) → slice_get seats n ≡ Some seat → Extends seat.actor seat.seen run

-- The pairs are those of whatever run has left the tree.
abbrev pub ListsAll : ClosedTree → List (List ℕ × List ℕ) → Type 0
ListsAll closed pairs = (run : List Entry) → IsLeftBy closed run → IsListing closed.limits run pairs

-- Whatever run has left the tree, so many pairs are those of its listing.
abbrev pub CountsAll : ClosedTree → ℕ → Type 0
CountsAll closed count = (run : List Entry) → IsLeftBy closed run → (pairs : List (List ℕ × List ℕ)) × IsListing closed.limits run pairs × (count ≡ length pairs)

-- Whatever run has left the tree, the page is the one that a cursor would show from the key on after it.
abbrev pub ListsPage : ClosedTree → List ℕ → List (List ℕ × List ℕ) → Option (List ℕ) → Type 0
ListsPage closed from pairs next = (run : List Entry) → IsLeftBy closed run → IsListedPage closed.limits run from pairs next
