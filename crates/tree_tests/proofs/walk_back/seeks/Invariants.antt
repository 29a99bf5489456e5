use Rattle.std.proofs.Common.{◌≡◌}
use Rattle.running_tree.specs.Seats.{unfinished_command}
use Rattle.running_tree.specs.Trees.{IsSeatOf}
use Rattle.walks.specs.Cursors.{cursor_command}
use Rattle.tree_tests.proofs.walk_back.seeks.Given as goal

abbrev pub invariant-loop : goal.invariant-loop
invariant-loop l = record {
  own : IsSeatOf l.tree l.seat;
  ready : unfinished_command l.seat ≡ cursor_command l.cursor;
}
