use Rattle.running_tree.specs.Trees.{IsSeatOf}
use Rattle.tree_tests.proofs.room_watched.emptied.Given as goal

abbrev pub invariant-loop : goal.invariant-loop
invariant-loop l = record { one : IsSeatOf l.tree l.one; other : IsSeatOf l.tree l.other }
