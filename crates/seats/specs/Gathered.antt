-- Seats that see what others have seen.
use Rattle.std.specs.Prelude.{◌≡◌, ℕ, List, Some, length, slice_get}
use Rattle.traces.specs.declared.trace.Entry.{Entry}
use Rattle.traces.specs.discipline.Disciplined.{Extends}
use Rattle.running_tree.specs.Calls.{calls_in, calls_of}
use Rattle.running_tree.specs.Notes.{HasHeeded, Note}
use Rattle.running_tree.specs.Runs.{IsOneHistory, StartsWith}
use Rattle.running_tree.specs.Seats.{IsSame, Seat, unfinished_command}

-- One seat, before and after: it has the same calls, and may have seen more of others.
pub record SeesOn (old new : Seat) : Type 0 where
  pub same : IsSame old new
  pub extends : Extends old.actor old.seen new.seen
  pub calls : calls_in new ≡ calls_in old
  pub command : unfinished_command new ≡ unfinished_command old

-- The seat has seen all that any seat of the list has seen, and that is one history.
pub record HasSeenAll (seats : List Seat) (one : Seat) : Type 0 where
  pub each : (n : ℕ) (seat : Seat) → slice_get seats n ≡ Some seat → StartsWith one.seen seat.seen
  pub history : IsOneHistory one.limits one.seen

-- Each of the seats, in its place, has heeded the note, and what it has seen is one history.
pub record HaveHeeded (note : Note) (old new : List Seat) : Type 0 where
  pub count : length new ≡ length old
  pub each : (n : ℕ) (before after : Seat) → slice_get old n ≡ Some before → slice_get new n ≡ Some after → HasHeeded before note after × IsOneHistory after.limits after.seen

-- The run is one history. The seat has seen it, and then entries of others alone: its actor's calls in it are exactly the seat's calls.
pub record IsHistoryOf (run : List Entry) (seat : Seat) : Type 0 where
  pub history : IsOneHistory seat.limits run
  pub extends : Extends seat.actor run seat.seen
  pub calls : calls_of seat.actor run ≡ calls_in seat

-- There is one history of all the seats.
abbrev pub HaveOneHistory : List Seat → Type 0
HaveOneHistory seats = (run : List Entry) × ((n : ℕ) (seat : Seat) → slice_get seats n ≡ Some seat → IsHistoryOf run seat)

-- A seat sees on. The run goes on from what it had seen by entries of others alone, and is a history of it now.
pub record IsGathered (run : List Entry) (old new : Seat) : Type 0 where
  pub on : SeesOn old new
  pub extends : Extends old.actor old.seen run
  pub all : IsHistoryOf run new
  pub history : IsOneHistory new.limits new.seen

-- Each seat, in its place, sees what all have seen, in one history.
pub record HaveGathered (old new : List Seat) : Type 0 where
  pub run : List Entry
  pub count : length new ≡ length old
  pub each : (n : ℕ) (before after : Seat) → slice_get old n ≡ Some before → slice_get new n ≡ Some after → IsGathered run before after
