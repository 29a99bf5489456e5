use Rattle.running_tree.specs.Trees.{IsSeatOf}
use Rattle.tree_tests.proofs.walk_back.walks_down.Given as goal

abbrev pub invariant-loop-budget : goal.invariant-loop-budget
invariant-loop-budget l = IsSeatOf l.tree l.seat

abbrev pub invariant-loop-low : goal.invariant-loop-low
invariant-loop-low l = IsSeatOf l.tree l.seat
