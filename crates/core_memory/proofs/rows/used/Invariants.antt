use Rattle.std.proofs.Common.{◌≡◌, ◌<◌, ◌≤◌, ℕ, get_or}
use Rattle.core_memory.proofs.rows.used.Given as goal

abbrev pub invariant-loop-place : goal.invariant-loop-place
invariant-loop-place l = record {
  within : l.end ≤ l.place;
  zeros : (k : ℕ) → l.end ≤ k → k < l.place → get_or l.row k 0 ≡ 0;
}
