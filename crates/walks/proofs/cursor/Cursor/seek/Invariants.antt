use Rattle.walks.proofs.Words.{HasWalked, IsSame, cursor_command, length, unfinished_command, [], ◌≡◌}
use Rattle.walks.proofs.cursor.Cursor.seek.Given as goal

abbrev pub invariant-loop : goal.invariant-loop
invariant-loop g l = record {
  same : IsSame l.fn.seat l.seat;
  ready : unfinished_command l.seat ≡ cursor_command l.self;
  walked : (w : HasWalked l.fn.self l.fn.seat [] [] l.self l.seat) × (length w.pages ≡ l.counter);
}
