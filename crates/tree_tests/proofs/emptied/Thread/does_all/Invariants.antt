use Rattle.running_tree.specs.Seats.{IsSame}
use Rattle.tree_tests.proofs.emptied.Thread.does_all.Given as goal

abbrev pub invariant-loop-number : goal.invariant-loop-number
invariant-loop-number l = record { same : IsSame l.initial.seat l.seat }
