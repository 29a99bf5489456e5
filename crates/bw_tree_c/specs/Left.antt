-- What a tree leaves that is closed with its pairs.
use Rattle.std.specs.Prelude.{◌≡◌, ℕ, List, Some, length, slice_get}
use Rattle.tree_limits.specs.declared.limits.Limits.{Limits}
use Rattle.running_tree.specs.Seats.{Seat}
use Rattle.running_tree.specs.Trees.{AreClosed}
use Rattle.seats.specs.Idle.{AreIdle}

-- All seats are of these limits.
abbrev pub AreOfLimits : Limits → List Seat → Type 0
AreOfLimits limits seats = (n : ℕ) (seat : Seat) → slice_get seats n ≡ Some seat → seat.limits ≡ limits

-- The seats are those of one tree of these limits, one for each actor.
pub record HaveOneTree (limits : Limits) (seats : List Seat) : Type 0 where
  pub alike : (m n : ℕ) (one other : Seat) → slice_get seats m ≡ Some one → slice_get seats n ≡ Some other → other.table ≡ one.table
  pub each : AreOfLimits limits seats
  pub count : length seats ≡ limits.actors

-- The pairs are those of a tree that was closed when nothing was under way, with these seats.
pub record ArePairsLeft (seats : List Seat) (pairs : List (List ℕ × List ℕ)) : Type 0 where
  pub limits : Limits
  pub each : AreOfLimits limits seats
  pub idle : AreIdle seats
  pub closed : AreClosed limits seats pairs
