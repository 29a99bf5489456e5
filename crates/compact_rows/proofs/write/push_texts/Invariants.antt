use Rattle.compact_rows.proofs.Words.{◌≡◌, ◌≤◌, ◌+◌, ◌++◌, drop, length, All, IsShortItem, texts}
use Rattle.std.proofs.Common.{take}
use Rattle.compact_rows.proofs.write.push_texts.Given as goal

abbrev pub invariant-loop-item : goal.invariant-loop-item
invariant-loop-item l = record {
  written : l.row ++ texts (drop l.item-index l.items) ≡ l.initial.row ++ texts l.items;
  room : length l.row + length (texts (drop l.item-index l.items)) ≤ 512;
  short : All IsShortItem (take l.item-index l.items);
}
