-- Trees and their seats: what opening gives, what a meeting does, and what closing lists.
use Rattle.std.specs.Prelude.{◌≡◌, ◌<◌, ◌≤◌, ◌^◌, ℕ, List, [], length, None, Some, slice_get}
use Rattle.atomic_table.specs.Seated.{TableId}
use Rattle.tree_limits.specs.declared.limits.Limits.{Limits}
use Rattle.tree_limits.specs.declared.limits.OpenError.{OpenError}
use Rattle.tree_limits.specs.declared.limits.OpenError.TheVariants.{Memory, BadEpoch}
use Rattle.traces.specs.declared.trace.Entry.{Entry}
use Rattle.traces.specs.discipline.Disciplined.{Extends}
use Rattle.listing.specs.Listed.{IsListing}
use Rattle.table_rule.specs.declared.view.Part.{Part}
use Rattle.table_rule.specs.declared.view.Reach.TheVariants.{Idle}
use Rattle.table_rule.specs.Running.{Each}
use Rattle.table_rule.specs.Views.{part}
use Rattle.tree_words.specs.Layout.{width}
use Rattle.running_tree.specs.Runs.{IsOneHistory}
use Rattle.running_tree.specs.Seats.{IsSame, Seat, unfinished_command}

-- a tree: its limits, and which table it has
pub record Tree : Type 0 where
  pub limits : Limits
  pub table : TableId

-- its table has the words of a tree of these limits, and nothing else
pub record IsTreeTable (limits key : Limits) (table : TableId) : Type 0 where
  pub wide : table.words ≡ width limits
  pub slots : table.slots ≡ 0
  pub own : key ≡ limits

-- The seat is one of the tree.
pub record IsSeatOf (tree : Tree) (seat : Seat) : Type 0 where
  pub table : seat.table ≡ tree.table
  pub limits : seat.limits ≡ tree.limits

-- a seat that has seen the empty run
abbrev pub fresh_seat : Tree → ℕ → Seat
fresh_seat tree actor = record { table = tree.table; limits = tree.limits; actor = actor; seen = [] }

-- One seat for each actor, in order.
pub record AreFresh (tree : Tree) (seats : List Seat) : Type 0 where
  pub count : length seats ≡ tree.limits.actors
  pub each : (actor : ℕ) → actor < tree.limits.actors → slice_get seats actor ≡ Some (fresh_seat tree actor)

-- epochs are 1 to 2^62
abbrev pub IsEpoch : ℕ → Type 0
IsEpoch epoch = (1 ≤ epoch) × (epoch ≤ 2 ^ 62)

-- The limits, but for the opening epoch, which is this one.
pub record OpensAt (limits : Limits) (asked : ℕ) (opened : Limits) : Type 0 where
  pub range : IsEpoch asked
  pub actors : opened.actors ≡ limits.actors
  pub pids : opened.pids ≡ limits.pids
  pub rows : opened.rows ≡ limits.rows
  pub epoch : opened.epoch ≡ asked
  pub kind : opened.is_large ≡ limits.is_large

-- An epoch outside the range is refused; otherwise memory was.
pub record IsRefusedAt (epoch : ℕ) (error : OpenError) : Type 0 where
  pub bad : (IsEpoch epoch → ⊥) → error ≡ BadEpoch
  pub memory : IsEpoch epoch → error ≡ Memory

-- All are seats of the tree.
abbrev pub AreSeatsOf : Tree → List Seat → Type 0
AreSeatsOf tree seats = (n : ℕ) (seat : Seat) → slice_get seats n ≡ Some seat → IsSeatOf tree seat

-- A seat has an operation.
abbrev pub HasBusy : List Seat → Type 0
HasBusy seats = (n : ℕ) × (seat : Seat) × (slice_get seats n ≡ Some seat) × (unfinished_command seat ≡ None → ⊥)

-- The parts are those of the seats, in some order, each between two steps: as many seats, and for each seat a part.
pub record HasPartsOf (limits : Limits) (seats : List Seat) (parts : List Part) : Type 0 where
  pub count : length parts ≡ length seats
  pub idle : Each (λ at. (at.reach ≡ Idle) × (at.limits ≡ limits)) parts
  pub each : (n : ℕ) (seat : Seat) → slice_get seats n ≡ Some seat → (m : ℕ) × (slice_get parts m ≡ Some (part limits seat.actor seat.seen Idle))

-- Two seats have met: both have seen one run, which goes on from what each of them had seen by steps of others alone.
pub record HaveMet (old new other later : Seat) : Type 0 where
  pub same : IsSame old new
  pub same_other : IsSame other later
  pub extends : Extends old.actor old.seen new.seen
  pub extends_other : Extends other.actor other.seen later.seen
  pub one : later.seen ≡ new.seen

-- The pairs are those of one run, which goes on from what each of the seats has seen by steps of others alone.
pub record AreClosed (limits : Limits) (seats : List Seat) (pairs : List (List ℕ × List ℕ)) : Type 0 where
  pub run : List Entry
  pub history : IsOneHistory limits run
  pub extends : (n : ℕ) (seat : Seat) → slice_get seats n ≡ Some seat → Extends seat.actor seat.seen run
  pub listing : IsListing limits run pairs
