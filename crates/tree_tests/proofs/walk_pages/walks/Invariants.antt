use Rattle.running_tree.specs.Trees.{IsSeatOf}
use Rattle.tree_tests.proofs.walk_pages.walks.Given as goal

abbrev pub invariant-loop-budget : goal.invariant-loop-budget
invariant-loop-budget l = IsSeatOf l.tree l.seat

abbrev pub invariant-loop-bound : goal.invariant-loop-bound
invariant-loop-bound l = IsSeatOf l.tree l.seat
