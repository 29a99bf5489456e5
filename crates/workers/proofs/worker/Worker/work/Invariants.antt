use Rattle.workers.proofs.Words.{HasDone, vec_capacity, ◌≤◌}
use Rattle.workers.proofs.worker.Worker.work.Given as goal

abbrev pub invariant-loop : goal.invariant-loop
invariant-loop g l = record {
  done : HasDone l.fn.place l.fn.limit l.initial.self.seat l.self;
  room : l.fn.limit ≤ vec_capacity l.self.done;
}
