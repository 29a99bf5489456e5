use Rattle.running_tree.specs.Trees.{IsSeatOf}
use Rattle.tree_tests.proofs.without_memory.runs.Given as goal

abbrev pub invariant-loop-round : goal.invariant-loop-round
invariant-loop-round g l = record { one : IsSeatOf l.tree l.one; other : IsSeatOf l.tree l.other }
