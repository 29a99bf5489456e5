use Rattle.running_tree.specs.Seats.{IsSame}
use Rattle.bench.proofs.worker.steps.Given as goal

abbrev pub invariant-loop-step : goal.invariant-loop-step
invariant-loop-step l = record { same : IsSame l.initial.seat l.seat }
