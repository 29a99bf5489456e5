use Rattle.std.proofs.Common.{◌≡◌, take}
use Rattle.tree_picture.specs.Pages.{with_slots}
use Rattle.tree_picture.specs.Touches.{touched_slots}
use Rattle.tree_picture.proofs.slots.slot_boxes.Given as goal

abbrev pub invariant-loop-each : goal.invariant-loop-each
invariant-loop-each l = l.sheet ≡ with_slots l.initial.sheet (touched_slots l.touched (take l.each-index l.slots))
