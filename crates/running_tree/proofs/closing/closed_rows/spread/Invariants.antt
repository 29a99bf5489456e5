use Rattle.std.proofs.Common.{◌≡◌, ℕ, ◌<◌, get_or, length}
use Rattle.compact_rows.specs.Seen.{seen}
use Rattle.running_tree.proofs.closing.closed_rows.spread.Given as goal

abbrev pub invariant-loop-at : goal.invariant-loop-at
invariant-loop-at l = record {
  long : length l.row ≡ 512;
  words : (k : ℕ) → k < l.at → get_or l.row k 0 ≡ seen l.words k;
}
