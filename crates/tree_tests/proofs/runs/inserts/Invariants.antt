use Rattle.running_tree.specs.Trees.{IsSeatOf}
use Rattle.tree_tests.proofs.runs.inserts.Given as goal

abbrev pub invariant-loop-number : goal.invariant-loop-number
invariant-loop-number l = record { one : IsSeatOf l.tree l.one; other : IsSeatOf l.tree l.other }
