use Rattle.running_tree.specs.Trees.{IsSeatOf}
use Rattle.tree_tests.proofs.runs.stays.Given as goal

abbrev pub invariant-loop-round : goal.invariant-loop-round
invariant-loop-round l = record { one : IsSeatOf l.tree l.writer; other : IsSeatOf l.tree l.reader }
