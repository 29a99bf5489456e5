use Rattle.running_tree.specs.Trees.{IsSeatOf}
use Rattle.tree_tests.proofs.walk_back.has_neighbours_beside_a_gap.Given as goal

abbrev pub invariant-loop-number : goal.invariant-loop-number
invariant-loop-number l = IsSeatOf l.tree l.seat
