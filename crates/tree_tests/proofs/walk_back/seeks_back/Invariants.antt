use Rattle.std.proofs.Common.{◌≡◌}
use Rattle.running_tree.specs.Seats.{unfinished_command}
use Rattle.running_tree.specs.Trees.{IsSeatOf}
use Rattle.walks.specs.BackCursors.{back_command}
use Rattle.tree_tests.proofs.walk_back.seeks_back.Given as goal

abbrev pub invariant-loop : goal.invariant-loop
invariant-loop l = record {
  own : IsSeatOf l.tree l.seat;
  ready : unfinished_command l.seat ≡ back_command l.cursor;
}
