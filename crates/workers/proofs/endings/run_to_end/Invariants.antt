use Rattle.workers.proofs.UnderWay.{IsUnderWay}
use Rattle.workers.proofs.endings.run_to_end.Given as goal

abbrev pub invariant-loop : goal.invariant-loop
invariant-loop g l = IsUnderWay l.fn.seat l.fn.command l.seat
