use Rattle.running_tree.specs.Trees.{IsSeatOf}
use Rattle.tree_tests.proofs.runs.inserts_alone.Given as goal

abbrev pub invariant-loop-number : goal.invariant-loop-number
invariant-loop-number l = record { own : IsSeatOf l.tree l.seat }
