use Rattle.std.proofs.Common.{◌≡◌, ◌≤◌, ◌+◌, ◌*◌, ◌++◌, drop, length, take}
use Rattle.std.specs.List.{All}
use Rattle.record_slots.specs.Layout.{item_size, row_size}
use Rattle.record_slots.specs.Spelling.{items_words}
use Rattle.record_slots.specs.Spells.{IsShortItem}
use Rattle.record_slots.proofs.write.push_items.Given as goal

abbrev pub invariant-loop-item : goal.invariant-loop-item
invariant-loop-item l = record {
  written : l.row ++ items_words (drop l.item-index l.items) ≡ l.initial.row ++ items_words l.items;
  room : length l.row + item_size * length (drop l.item-index l.items) ≤ row_size;
  short : All IsShortItem (take l.item-index l.items);
}
