use Rattle.compact_rows.proofs.Words.{◌≡◌, ◌≤◌, ◌+◌, ◌++◌, drop, length, codes, texts}
use Rattle.compact_rows.proofs.write.push_codes.Given as goal

abbrev pub invariant-loop-item : goal.invariant-loop-item
invariant-loop-item l = record {
  written : l.row ++ codes l.next (drop l.item-index l.items) ≡ l.initial.row ++ codes l.at l.items;
  count : length l.row + length (drop l.item-index l.items) ≡ length l.initial.row + length l.items;
  low : l.next + length (texts (drop l.item-index l.items)) ≤ 512;
}
