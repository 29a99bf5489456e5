use Rattle.std.proofs.Common.{◌≡◌}
use Rattle.running_tree.specs.Seats.{unfinished_command}
use Rattle.running_tree.specs.Trees.{IsSeatOf}
use Rattle.walks.specs.Cursors.{cursor_command}
use Rattle.tree_tests.proofs.walk_beside.walks_beside.Given as goal

abbrev pub invariant-loop-round : goal.invariant-loop-round
invariant-loop-round l = record {
  own : IsSeatOf l.tree l.seat;
  other : IsSeatOf l.tree l.other;
  ready : unfinished_command l.seat ≡ cursor_command l.cursor;
}
