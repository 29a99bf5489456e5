use Rattle.std.proofs.Common.{◌≡◌, ◌<◌, ℕ, Some, None}
use Rattle.running_tree.proofs.Words.{slice_get, Seat, unfinished_command}
use Rattle.running_tree.proofs.closing.are_idle.Given as goal

abbrev pub invariant-loop-seat : goal.invariant-loop-seat
invariant-loop-seat g l = (n : ℕ) (seat : Seat) → n < l.seat-index → slice_get l.seats n ≡ Some seat → unfinished_command seat ≡ None
