use Rattle.std.proofs.Common.{◌≤◌, length, take}
use Rattle.std.specs.Prelude.{All}
use Rattle.tree_picture.specs.Sizes.{IsWideFor}
use Rattle.tree_picture.proofs.places.width_of.Given as goal

abbrev pub invariant-loop-level : goal.invariant-loop-level
invariant-loop-level l = record {
  wide : All (λ level. IsWideFor l.width (length level)) (take l.level-index l.levels);
  few : l.width ≤ 3522;
}
