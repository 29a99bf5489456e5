use Rattle.running_tree.specs.Trees.{IsSeatOf}
use Rattle.tree_tests.proofs.room_watched.works.Given as goal

abbrev pub invariant-loop-place : goal.invariant-loop-place
invariant-loop-place l = record { own : IsSeatOf l.tree l.seat }
