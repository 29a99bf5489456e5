use Rattle.std.proofs.Common.{◌≤◌, take}
use Rattle.std.specs.Prelude.{All}
use Rattle.tree_picture.specs.Sizes.{page_height}
use Rattle.tree_picture.proofs.places.highest.Given as goal

abbrev pub invariant-loop-page : goal.invariant-loop-page
invariant-loop-page l = record {
  all : All (λ page. page_height page ≤ l.height) (take l.page-index l.pages);
  few : l.height ≤ 5046;
}
