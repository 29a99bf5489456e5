use Rattle.running_tree.specs.Trees.{IsSeatOf}
use Rattle.tree_tests.proofs.stops.prepare.Given as goal

abbrev pub invariant-loop-number : goal.invariant-loop-number
invariant-loop-number l = record { own : IsSeatOf l.tree l.seat }

abbrev pub invariant-loop-back : goal.invariant-loop-back
invariant-loop-back l = record { own : IsSeatOf l.tree l.seat }
