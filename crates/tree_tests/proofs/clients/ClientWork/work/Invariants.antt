use Rattle.running_tree.specs.Seats.{IsSame}
use Rattle.tree_tests.proofs.clients.ClientWork.work.Given as goal

abbrev pub invariant-loop-round : goal.invariant-loop-round
invariant-loop-round l = record { same : IsSame l.initial.seat l.seat }
