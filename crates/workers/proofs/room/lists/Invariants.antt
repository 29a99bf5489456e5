use Rattle.workers.proofs.Words.{All, HasRoom, vec_len, ◌≡◌}
use Rattle.workers.proofs.room.lists.Given as goal

abbrev pub invariant-loop : goal.invariant-loop
invariant-loop g l = record {
  count : vec_len l.lists ≡ l.counter;
  each : All (HasRoom l.limit) l.lists.items;
}
