use Rattle.std.proofs.Common.{◌≡◌, ◌+◌, ◌++◌, List, take}
use Rattle.std.specs.List.{AllZip}
use Rattle.tree_picture.specs.Layout.{AreLaidTo}
use Rattle.tree_picture.specs.declared.shape.Mark.{Mark}
use Rattle.tree_picture.specs.Marks.{IsMarkFor}
use Rattle.tree_picture.specs.Pids.{level_pids}
use Rattle.tree_picture.specs.Ranges.{level_ranges}
use Rattle.tree_picture.specs.RecordLines.{level_records}
use Rattle.tree_picture.specs.Stands.{level_stands}
use Rattle.tree_picture.proofs.Rows.{IsPlaceAt}
use Rattle.tree_picture.proofs.levels.level_rows.Given as goal

abbrev pub invariant-loop-page : goal.invariant-loop-page
invariant-loop-page l = record {
  pids : l.sheet.pids ≡ l.initial.sheet.pids ++ level_pids (take l.page-index l.pages);
  ranges : l.sheet.ranges ≡ l.initial.sheet.ranges ++ level_ranges (take l.page-index l.pages);
  stands : l.sheet.stands ≡ l.initial.sheet.stands ++ level_stands l.over.stands.now (take l.page-index l.pages);
  slots : l.sheet.slots ≡ l.initial.sheet.slots;
  cells : l.sheet.cells ≡ l.initial.sheet.cells;
  records : l.sheet.records ≡ l.initial.sheet.records ++ level_records (take l.page-index l.pages);
  marks : (own : List Mark) × (l.sheet.marks ≡ l.initial.sheet.marks ++ own) × AllZip (IsMarkFor l.root l.above) (take l.page-index l.pages) own;
  at : IsPlaceAt l.first l.top l.page-index l.place;
  laid : AreLaidTo l.width l.top 0 l.top l.initial.sheet.boxes → AreLaidTo l.width (l.place.y + l.height) l.place.x l.place.y l.sheet.boxes;
}
