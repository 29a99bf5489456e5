use Rattle.running_tree.specs.Trees.{AreSeatsOf}
use Rattle.tree_tests.proofs.many_keys.counts.Given as goal

abbrev pub invariant-loop-place : goal.invariant-loop-place
invariant-loop-place l = AreSeatsOf l.tree l.seats.items
