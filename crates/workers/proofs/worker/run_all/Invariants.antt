use Rattle.workers.proofs.Words.{GoesOn, Some, length, map, vec_capacity, zip, ◌≡◌, ◌≤◌}
use Rattle.std.proofs.Common.{take}
use Rattle.workers.proofs.worker.run_all.Given as goal

abbrev pub invariant-loop-command : goal.invariant-loop-command
invariant-loop-command g l = record {
  goes : GoesOn l.initial.seat (zip (take l.command-index l.commands) (map Some l.replies.items)) l.seat;
  count : length l.replies.items ≡ l.command-index;
  room : length l.commands ≤ vec_capacity l.replies;
}
