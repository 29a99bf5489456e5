-- Seats of which none has an operation.
use Rattle.std.proofs.Common.{◌≡◌, List, Option, Some, None, false, refl, true}
use Rattle.std.specs.Prelude.{Bool, MatchBool}
use Rattle.running_tree.specs.Seats.{Seat, unfinished_command}
use Rattle.running_tree.specs.Trees.{HasBusy}
use Rattle.seats.specs.Idle.{AreIdle}

none_unless : {X : Type 0} (o : Option X) → ((o ≡ None → ⊥) → ⊥) → o ≡ None
none_unless None h = refl
none_unless (Some x) h = absurd (h (λ e. cc))

pub idle_unless_busy : (seats : List Seat) (r : Bool) → MatchBool r (HasBusy seats → ⊥) (HasBusy seats) → MatchBool r (AreIdle seats) (HasBusy seats)
idle_unless_busy seats true h = λ n seat at. none_unless (unfinished_command seat) (λ busy. h (n, seat, at, busy))
idle_unless_busy seats false h = h
