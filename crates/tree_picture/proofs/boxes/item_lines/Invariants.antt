use Rattle.std.proofs.Common.{◌≡◌, map, take}
use Rattle.tree_picture.specs.Pages.{with_records}
use Rattle.tree_picture.specs.RecordLines.{item_line}
use Rattle.tree_picture.proofs.boxes.item_lines.Given as goal

abbrev pub invariant-loop-item : goal.invariant-loop-item
invariant-loop-item l = l.sheet ≡ with_records l.initial.sheet (map (item_line l.newer) (take l.item-index l.items))
