use Rattle.std.proofs.Common.{◌≤◌}
use Rattle.epochs.proofs.Queues.{IsMoved}
use Rattle.epochs.proofs.queue.keep_at_end.Given as goal

abbrev pub invariant-loop-place : goal.invariant-loop-place
invariant-loop-place l = (l.start ≤ l.place) × IsMoved l.initial.entries l.entries l.end l.word l.kept l.place
