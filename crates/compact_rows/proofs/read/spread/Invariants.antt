use Rattle.compact_rows.proofs.Words.{◌≡◌, ℕ, ◌<◌, get_or, length, seen}
use Rattle.compact_rows.proofs.read.spread.Given as goal

abbrev pub invariant-loop-at : goal.invariant-loop-at
invariant-loop-at l = record {
  long : length l.row ≡ 512;
  words : (k : ℕ) → k < l.at → get_or l.row k 0 ≡ seen l.words k;
}
