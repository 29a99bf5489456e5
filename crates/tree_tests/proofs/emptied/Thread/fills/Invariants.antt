use Rattle.running_tree.specs.Seats.{IsSame}
use Rattle.tree_tests.proofs.emptied.Thread.fills.Given as goal

abbrev pub invariant-loop-place : goal.invariant-loop-place
invariant-loop-place l = record { same : IsSame l.initial.seat l.seat }
