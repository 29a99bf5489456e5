use Rattle.workers.proofs.Words.{AreBegun, vec_capacity, vec_len, ◌≤◌}
use Rattle.workers.proofs.begun.begin_all.Given as goal

abbrev pub invariant-loop-worker : goal.invariant-loop-worker
invariant-loop-worker g l = record {
  begun : AreBegun l.fn.shared.limit l.fn.shared.may_run.id l.yielded l.begun.items;
  space : vec_len l.fn.workers ≤ vec_capacity l.begun;
}
