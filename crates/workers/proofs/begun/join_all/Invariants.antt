use Rattle.workers.proofs.Words.{HaveJoined, vec_capacity, vec_len, ◌≤◌}
use Rattle.workers.proofs.begun.join_all.Given as goal

abbrev pub invariant-loop-thread : goal.invariant-loop-thread
invariant-loop-thread g l = record {
  joined : HaveJoined l.fn.told.value l.yielded l.workers.items;
  space : vec_len l.fn.begun ≤ vec_capacity l.workers;
}
