use Rattle.compact_rows.proofs.Words.{◌≡◌, ◌+◌, ◌++◌, drop, length, heads}
use Rattle.compact_rows.proofs.write.push_heads.Given as goal

abbrev pub invariant-loop-item : goal.invariant-loop-item
invariant-loop-item l = record {
  written : l.row ++ heads (drop l.item-index l.items) ≡ l.initial.row ++ heads l.items;
  count : length l.row + length (drop l.item-index l.items) ≡ length l.initial.row + length l.items;
}
