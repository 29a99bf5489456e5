-- Seats on which nothing is under way.
use Rattle.std.specs.Prelude.{◌≡◌, ℕ, List, None, Some, slice_get}
use Rattle.running_tree.specs.Seats.{Seat, unfinished_command}

-- No seat has an operation.
abbrev pub AreIdle : List Seat → Type 0
AreIdle seats = (n : ℕ) (seat : Seat) → slice_get seats n ≡ Some seat → unfinished_command seat ≡ None
