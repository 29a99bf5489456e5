use Rattle.std.proofs.Common.{◌≡◌, take}
use Rattle.tree_picture.specs.Cells.{limbo_cells}
use Rattle.tree_picture.specs.Pages.{with_cells}
use Rattle.tree_picture.proofs.cells.limbo_boxes.Given as goal

abbrev pub invariant-loop-place : goal.invariant-loop-place
invariant-loop-place l = l.sheet ≡ with_cells l.initial.sheet (limbo_cells l.are_rows l.actor (take l.place l.entries))
