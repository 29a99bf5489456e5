-- What is in the slots of a handle, and what may be put back.
use Rattle.std.specs.Prelude.{◌≡◌, ◌+◌, ◌*◌, ◌<◌, ◌≤◌, ◌⊎◌, [], ℕ, List, MatchOption, None, Option, Some, length, slice_get}
use Rattle.std.specs.Arc.{arc_value}
use Rattle.std.specs.Vec.{vec_capacity}
use Rattle.call_log.specs.declared.log.Event.{Event}
use Rattle.call_log.specs.Logs.{Cell, cell_of, home, no_slot, out, stage_of}
use Rattle.tree_limits.specs.declared.limits.Limits.{Limits}
use Rattle.running_tree.specs.Seats.{Seat}
use Rattle.running_tree.specs.Trees.{AreSeatsOf}
use Rattle.seats.specs.Idle.{AreIdle}
use Rattle.bw_tree_c.specs.Left.{ArePairsLeft, HaveOneTree}
use Rattle.bw_tree_c.specs.Seats.{IsLater}
use Rattle.bw_tree_c.specs.declared.closing.whole.Whole.{Whole}
use Rattle.bw_tree_c.specs.declared.handle.slots.Inside.{Inside}
use Rattle.bw_tree_c.specs.declared.handle.slots.Inside.TheVariants as inside

-- the seat that is inside
abbrev pub seat_in : Inside → Option Seat
seat_in inside.Nothing = None
seat_in (inside.Seat place) = Some place.value.seat
seat_in (inside.Pairs pairs) = None
seat_in (inside.Whole whole) = None

-- the seat that is in a slot, or was in it when it was taken out
abbrev pub seat_of : Cell Inside → Option Seat
seat_of no_slot = None
seat_of (home x) = seat_in x
seat_of (out author x) = seat_in x

-- The log has these seats: each slot but the last has one, as the last call on it left it.
pub record AreSeats (opened : List Inside) (log : List (Event Inside)) (seats : List Seat) : Type 0 where
  pub count : length opened ≡ length seats + 1
  pub each : (n : ℕ) (seat : Seat) → slice_get seats n ≡ Some seat → seat_of (cell_of opened log n) ≡ Some seat

-- These pairs were left by a tree that was closed with the seats that the log has.
pub record LeavesPairs (opened : List Inside) (log : List (Event Inside)) (pairs : List (List ℕ × List ℕ)) : Type 0 where
  pub seats : List Seat
  pub are : AreSeats opened log seats
  pub left : ArePairsLeft seats pairs

-- That seat is inside, and may have seen more.
abbrev pub HasLaterSeat : Seat → Option Seat → Type 0
HasLaterSeat old None = ⊥
HasLaterSeat old (Some new) = IsLater old new

-- What was taken out of a slot of an open tree may be put back as this: a seat goes on, and nothing else changes.
abbrev pub GoesOnTo : Inside → Inside → Type 0
GoesOnTo (inside.Seat place) new = HasLaterSeat place.value.seat (seat_in new)
GoesOnTo inside.Nothing new = new ≡ inside.Nothing
GoesOnTo (inside.Pairs pairs) new = new ≡ inside.Pairs pairs
GoesOnTo (inside.Whole whole) new = new ≡ inside.Whole whole

-- The seats of a tree are all here, none has an operation, and there is room for their pairs.
pub record HasAllIn (whole : Whole) : Type 0 where
  pub own : MatchOption whole.share ⊥ (λ share. AreSeatsOf (arc_value share) whole.seats.items)
  pub idle : AreIdle whole.seats.items
  pub limits : Limits
  pub one : HaveOneTree limits whole.seats.items
  pub some : 0 < length whole.seats.items
  pub empty : whole.room.items ≡ []
  pub room : 24 * limits.pids ≤ vec_capacity whole.room

-- They are those that the log has.
pub record HasAllOf (opened : List Inside) (log : List (Event Inside)) (whole : Whole) : Type 0 where
  pub are : AreSeats opened log whole.seats.items
  pub all : HasAllIn whole

-- This may wait for who closes the tree again.
abbrev pub WaitsFrom : List Inside → List (Event Inside) → Inside → Type 0
WaitsFrom opened log inside.Nothing = ⊥
WaitsFrom opened log (inside.Seat place) = ⊥
WaitsFrom opened log (inside.Pairs pairs) = LeavesPairs opened log pairs.items
WaitsFrom opened log (inside.Whole whole) = HasAllOf opened log whole.value

-- What may be put back: while the tree is open, what was taken out, as it went on; once it is closed, into the last slot, the pairs that it left, or the tree
-- with its seats.
abbrev pub IsPutBack : List Inside → List (Event Inside) → ℕ → Inside → Inside → Type 0
IsPutBack opened log n old new = ((stage_of log ≡ 0) × GoesOnTo old new) ⊎ ((stage_of log ≡ 1) × (n + 1 ≡ length opened) × WaitsFrom opened log new)

-- The slots have these seats, and the last one has nothing.
pub record HaveSeats (opened : List Inside) (seats : List Seat) : Type 0 where
  pub are : AreSeats opened [] seats
  pub last : slice_get opened (length seats) ≡ Some inside.Nothing

-- the seat that was in the slot of this number when the tree was opened
abbrev pub first_seat : List Inside → ℕ → Option Seat
first_seat opened n = seat_of (cell_of opened [] n)

-- There is a slot for each actor of these limits, with the seats of one tree of them, and one more, which has nothing.
pub record AreSlots (limits : Limits) (opened : List Inside) : Type 0 where
  pub count : length opened ≡ limits.actors + 1
  pub each : (n : ℕ) → n < limits.actors → first_seat opened n ≡ None → ⊥
  pub alike : (m n : ℕ) (one other : Seat) → first_seat opened m ≡ Some one → first_seat opened n ≡ Some other → other.table ≡ one.table
  pub own : (n : ℕ) (seat : Seat) → first_seat opened n ≡ Some seat → seat.limits ≡ limits
  pub last : slice_get opened limits.actors ≡ Some inside.Nothing

-- The slot of this number is out for good: the tree is closed, and if it is the last slot, nothing waits.
abbrev pub IsOutForGood : List Inside → List (Event Inside) → ℕ → Type 0
IsOutForGood opened log n = (0 < stage_of log) × (n + 1 ≡ length opened → stage_of log ≡ 2)
