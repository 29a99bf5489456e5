use Rattle.running_tree.specs.Seats.{IsSame}
use Rattle.bench.proofs.worker.WorkerWork.work.Given as goal

abbrev pub invariant-loop-operation : goal.invariant-loop-operation
invariant-loop-operation l = record { same : IsSame l.initial.seat l.seat }
