use Rattle.running_tree.specs.Seats.{IsSame}
use Rattle.tree_tests.proofs.emptied.ThreadJob.work.Given as goal

abbrev pub invariant-loop : goal.invariant-loop
invariant-loop l = record { same : IsSame l.initial.seat l.seat }
