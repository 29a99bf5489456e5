use Rattle.std.proofs.Common.{◌≡◌, ◌≤◌, ◌+◌, ◌*◌, ◌++◌, [], List, take}
use Rattle.tree_picture.specs.Layout.{AreLaidTo}
use Rattle.tree_picture.specs.declared.shape.Mark.{Mark}
use Rattle.tree_picture.specs.Marks.{AreMarked}
use Rattle.tree_picture.specs.Pids.{all_pids}
use Rattle.tree_picture.specs.Ranges.{all_ranges}
use Rattle.tree_picture.specs.RecordLines.{all_records}
use Rattle.tree_picture.specs.Stands.{all_stands}
use Rattle.tree_picture.proofs.Marking.{last_level}
use Rattle.tree_picture.proofs.levels.rows.Given as goal

abbrev pub invariant-loop-level : goal.invariant-loop-level
invariant-loop-level l = record {
  pids : l.sheet.pids ≡ l.initial.sheet.pids ++ all_pids (take l.level-index l.levels);
  ranges : l.sheet.ranges ≡ l.initial.sheet.ranges ++ all_ranges (take l.level-index l.levels);
  stands : l.sheet.stands ≡ l.initial.sheet.stands ++ all_stands l.stands (take l.level-index l.levels);
  slots : l.sheet.slots ≡ l.initial.sheet.slots;
  cells : l.sheet.cells ≡ l.initial.sheet.cells;
  records : l.sheet.records ≡ l.initial.sheet.records ++ all_records (take l.level-index l.levels);
  marks : (own : List Mark) × (l.sheet.marks ≡ l.initial.sheet.marks ++ own) × AreMarked l.root [] (take l.level-index l.levels) own;
  above : l.above ≡ last_level [] (take l.level-index l.levels);
  high : l.y ≤ l.top + l.level-index * 21315458094;
  laid : AreLaidTo l.width l.top 0 l.top l.initial.sheet.boxes → AreLaidTo l.width l.y 0 l.y l.sheet.boxes;
}
