use Rattle.listing.proofs.Words.{◌≤◌, length, Memory}
use Rattle.std.proofs.Common.{◌*◌}
use Rattle.std.specs.Vec.{vec_capacity}
use Rattle.listing.proofs.Walking.{HasListed}
use Rattle.listing.proofs.pairs.add_pairs.Given as goal

abbrev pub invariant-loop : goal.invariant-loop
invariant-loop g l = record {
  listed : (memory : Memory) → g.M.RecordRows.has l.rows memory → HasListed l.limits memory l.pairs.items l.counter l.pid;
  count : length l.pairs.items ≤ 24 * l.counter;
  capacity : vec_capacity l.initial.pairs ≤ vec_capacity l.pairs;
}
