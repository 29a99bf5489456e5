use Rattle.std.proofs.Common.{◌≡◌, [], take}
use Rattle.tree_picture.specs.Pages.{with_records}
use Rattle.tree_picture.specs.RecordLines.{lines_under}
use Rattle.tree_picture.proofs.boxes.record_boxes.Given as goal

abbrev pub invariant-loop-place : goal.invariant-loop-place
invariant-loop-place l = l.sheet ≡ with_records l.initial.sheet (lines_under [] (take l.place l.records))
