use Rattle.workers.proofs.Words.{All, HasRoom, length, map, vec_capacity, vec_len, ◌+◌, ◌≡◌, ◌≤◌}
use Rattle.workers.proofs.room.seated.Given as goal

abbrev pub invariant-loop-seat : goal.invariant-loop-seat
invariant-loop-seat g l = record {
  lists : vec_len l.lists + length l.yielded ≡ vec_len l.fn.seats;
  each : All (HasRoom l.fn.limit) l.lists.items;
  seats : map (λ worker. worker.seat) l.workers.items ≡ l.yielded;
  room : All (λ worker. HasRoom l.fn.limit worker.done) l.workers.items;
  count : vec_len l.workers ≡ length l.yielded;
  capacity : vec_len l.fn.seats ≤ vec_capacity l.workers;
}
