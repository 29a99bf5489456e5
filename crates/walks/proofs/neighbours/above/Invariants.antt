use Rattle.walks.proofs.Words.{None, above_in, drop, ◌-◌, ◌≡◌}
use Rattle.walks.proofs.neighbours.above.Given as goal

abbrev pub invariant-loop-place : goal.invariant-loop-place
invariant-loop-place l = record {
  same : l.bytes ≡ l.key;
  none : above_in (64 - l.place) (drop l.place l.key) ≡ None;
}
