use Rattle.std.proofs.Common.{◌≡◌, ◌≤◌, ◌+◌, ◌*◌, take}
use Rattle.std.specs.Prelude.{sum_by}
use Rattle.tree_picture.specs.Sizes.{record_height}
use Rattle.tree_picture.proofs.places.page_height.Given as goal

abbrev pub invariant-loop-record : goal.invariant-loop-record
invariant-loop-record l = record {
  exact : l.height ≡ 54 + sum_by record_height (take l.record-index l.record-items);
  few : l.height ≤ 54 + l.record-index * 384;
}
