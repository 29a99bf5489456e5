use Rattle.running_tree.proofs.Words.{IsStill, IsSame}
use Rattle.running_tree.proofs.seat.BwSeat.go_on.Given as goal

abbrev pub invariant-loop : goal.invariant-loop
invariant-loop g l = record { same : IsSame l.initial.self l.self; still : IsStill l.initial.self l.counter l.self }
