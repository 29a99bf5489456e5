use Rattle.running_tree.specs.Seats.{IsSame}
use Rattle.bench.proofs.worker.Worker.is_taken.Given as goal

abbrev pub invariant-loop-turn : goal.invariant-loop-turn
invariant-loop-turn l = record { same : IsSame l.initial.seat l.seat }
