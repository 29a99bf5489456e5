use Rattle.workers.proofs.Words.{flat_map, length, map, vec_capacity, vec_len, ◌*◌, ◌≡◌, ◌≤◌}
use Rattle.workers.proofs.room.parted.Given as goal

abbrev pub invariant-loop-worker : goal.invariant-loop-worker
invariant-loop-worker g l = record {
  seats : l.seats.items ≡ map (λ worker. worker.seat) l.yielded;
  count : vec_len l.seats ≡ length l.yielded;
  results : l.results.items ≡ flat_map (λ worker. worker.done.items) l.yielded;
  few : vec_len l.results ≤ length l.yielded * l.fn.limit;
  seats_room : vec_len l.fn.workers ≤ vec_capacity l.seats;
  results_room : vec_len l.fn.workers * l.fn.limit ≤ vec_capacity l.results;
}
