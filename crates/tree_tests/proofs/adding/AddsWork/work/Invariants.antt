use Rattle.running_tree.specs.Seats.{IsSame}
use Rattle.tree_tests.proofs.adding.AddsWork.work.Given as goal

abbrev pub invariant-loop-place : goal.invariant-loop-place
invariant-loop-place l = record { same : IsSame l.initial.seat l.seat }
