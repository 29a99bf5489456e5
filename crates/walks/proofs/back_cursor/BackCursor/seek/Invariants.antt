use Rattle.walks.proofs.Words.{HasWalkedBack, IsSame, back_command, length, unfinished_command, [], ◌≡◌}
use Rattle.walks.proofs.back_cursor.BackCursor.seek.Given as goal

abbrev pub invariant-loop : goal.invariant-loop
invariant-loop g l = record {
  same : IsSame l.fn.seat l.seat;
  ready : unfinished_command l.seat ≡ back_command l.self;
  walked : (w : HasWalkedBack l.fn.self l.fn.seat [] [] l.self l.seat) × (length w.pages ≡ l.counter);
}
