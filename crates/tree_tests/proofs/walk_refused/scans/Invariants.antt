use Rattle.running_tree.specs.Trees.{IsSeatOf}
use Rattle.tree_tests.proofs.walk_refused.scans.Given as goal

abbrev pub invariant-loop-grows : goal.invariant-loop-grows
invariant-loop-grows l = IsSeatOf l.tree l.seat
