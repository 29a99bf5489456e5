use Rattle.walks.proofs.Words.{HasTold, HasWalked, IsSame, cursor_command, length, unfinished_command, ◌≡◌}
use Rattle.walks.proofs.cursor.Cursor.scan.Given as goal

abbrev pub invariant-loop : goal.invariant-loop
invariant-loop g l = record {
  same : IsSame l.fn.seat l.seat;
  ready : unfinished_command l.seat ≡ cursor_command l.self;
  walked : (w : HasWalked l.fn.self l.fn.seat l.fn.list.items l.list.items l.self l.seat) × (length w.pages ≡ l.counter);
  told : HasTold l.fn.self l.fn.seat l.fn.list.items l.list.items l.self l.seat;
}
