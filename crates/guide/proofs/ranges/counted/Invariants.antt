use Rattle.std.proofs.Common.{◌≡◌}
use Rattle.running_tree.specs.Seats.{IsSame, unfinished_command}
use Rattle.walks.specs.Cursors.{cursor_command}
use Rattle.guide.proofs.ranges.counted.Given as goal

abbrev pub invariant-loop : goal.invariant-loop
invariant-loop l = record {
  same : IsSame l.initial.seat l.seat;
  ready : unfinished_command l.seat ≡ cursor_command l.cursor;
}
