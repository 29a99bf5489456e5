use Rattle.running_tree.specs.Trees.{AreSeatsOf}
use Rattle.tree_tests.proofs.trees.runs_all.Given as goal

abbrev pub invariant-loop-run : goal.invariant-loop-run
invariant-loop-run l = AreSeatsOf l.tree l.seats.items
