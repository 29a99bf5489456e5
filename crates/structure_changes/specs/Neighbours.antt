-- Neighbours on a level, as they were read.
use Rattle.std.specs.Prelude.{◌≡◌, Some}
use Rattle.traces.specs.chain.Chains.{high_in, low_in, right_in}
use Rattle.structure_changes.specs.Versions.{Version}

-- The page's right is the other one, which begins at the page's high key.
pub record IsNextTo (left other : Version) : Type 0 where
  pub right : right_in left.chain ≡ Some other.pid
  pub high : high_in left.chain ≡ Some (low_in other.chain)
