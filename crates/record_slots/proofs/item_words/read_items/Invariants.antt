use Rattle.std.proofs.Common.{◌≡◌, ◌*◌, take, length}
use Rattle.std.specs.List.{All}
use Rattle.record_slots.specs.Layout.{item_size}
use Rattle.record_slots.specs.Spelling.{items_words}
use Rattle.record_slots.specs.Parts.{IsItem}
use Rattle.record_slots.proofs.item_words.read_items.Given as goal

abbrev pub invariant-loop-place : goal.invariant-loop-place
invariant-loop-place l = record {
  counts : length l.items.items ≡ l.place;
  each : All (IsItem l.level) l.items.items;
  are : items_words l.items.items ≡ take (item_size * l.place) l.words;
}
