use Rattle.running_tree.specs.Trees.{AreSeatsOf}
use Rattle.tree_tests.proofs.emptied.is_emptied.Given as goal

abbrev pub invariant-loop-seed : goal.invariant-loop-seed
invariant-loop-seed l = AreSeatsOf l.tree l.seats.items
