use Rattle.running_tree.specs.Trees.{IsSeatOf}
use Rattle.tree_tests.proofs.runs.steps.Given as goal

abbrev pub invariant-loop : goal.invariant-loop
invariant-loop l = record { own : IsSeatOf l.tree l.seat }
