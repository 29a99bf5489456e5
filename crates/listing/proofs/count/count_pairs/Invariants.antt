use Rattle.listing.proofs.Words.{◌≡◌, ◌≤◌, length, Memory}
use Rattle.std.proofs.Common.{◌*◌}
use Rattle.listing.proofs.Walking.{HasListed, Pairs}
use Rattle.listing.proofs.count.count_pairs.Given as goal

abbrev pub invariant-loop : goal.invariant-loop
invariant-loop g l = record {
  listed : (memory : Memory) → g.M.RecordRows.has l.rows memory → (pairs : Pairs) × HasListed l.limits memory pairs l.counter l.pid × (l.count ≡ length pairs);
  few : l.count ≤ 24 * l.counter;
}
