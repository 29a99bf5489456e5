use Rattle.running_tree.specs.Trees.{IsSeatOf}
use Rattle.tree_tests.proofs.without_memory.reply_in_pieces.Given as goal

abbrev pub invariant-loop : goal.invariant-loop
invariant-loop g l = record { one : IsSeatOf l.tree l.one; other : IsSeatOf l.tree l.other }
