use Rattle.running_tree.specs.Trees.{AreSeatsOf}
use Rattle.tree_tests.proofs.emptied.taken.Given as goal

abbrev pub invariant-loop-number : goal.invariant-loop-number
invariant-loop-number l = AreSeatsOf l.tree l.seats.items
