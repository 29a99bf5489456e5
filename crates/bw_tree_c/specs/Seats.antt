-- Seats that see on.
use Rattle.running_tree.specs.Runs.{StartsWith}
use Rattle.running_tree.specs.Seats.{IsSame, Seat}

-- It is that seat, and may have seen more.
pub record IsLater (old new : Seat) : Type 0 where
  pub same : IsSame old new
  pub grows : StartsWith new.seen old.seen
