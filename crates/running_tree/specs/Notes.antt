-- Notes: what a seat had seen, for other seats.
use Rattle.std.specs.Prelude.{◌≡◌, ℕ, List}
use Rattle.atomic_table.specs.Seated.{TableId}
use Rattle.tree_limits.specs.declared.limits.Limits.{Limits}
use Rattle.traces.specs.declared.trace.Entry.{Entry}
use Rattle.traces.specs.discipline.Disciplined.{Extends}
use Rattle.table_rule.specs.declared.view.Reach.TheVariants.{Noted}
use Rattle.table_rule.specs.Views.{Mine, SitsAt}
use Rattle.running_tree.specs.Runs.{StartsWith}
use Rattle.running_tree.specs.Seats.{IsSame, Seat}
use Rattle.running_tree.specs.Trees.{Tree}

-- a note: of which table, of a tree of which limits, and the run that was seen
pub record Note : Type 0 where
  pub table : TableId
  pub limits : Limits
  pub seen : List Entry

-- a note of what the seat has seen
abbrev pub note_of : Seat → Note
note_of seat = record { table = seat.table; limits = seat.limits; seen = seat.seen }

-- what a note keeps
abbrev pub IsNote : Limits → Mine → Type 0
IsNote limits me = (actor : ℕ) × SitsAt limits actor Noted me

-- The note is one of the tree's.
pub record IsNoteOf (tree : Tree) (note : Note) : Type 0 where
  pub table : note.table ≡ tree.table
  pub limits : note.limits ≡ tree.limits

-- The seat has heeded the note: it has seen a run that begins with what the note tells, and that goes on from what the seat had seen by
-- steps of others alone.
pub record HasHeeded (old : Seat) (note : Note) (new : Seat) : Type 0 where
  pub same : IsSame old new
  pub extends : Extends old.actor old.seen new.seen
  pub begins : StartsWith new.seen note.seen
