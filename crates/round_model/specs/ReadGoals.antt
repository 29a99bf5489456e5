-- Where a reader's round goes first.
use Rattle.structure_changes.specs.Versions.{Version}

-- To the leaf of the key; to the leaf to the left of a removed page; to the leaf of the key, after it was to the left of a removed page.
pub data ReadGoal : Type 0 where
  Seek : ReadGoal
  Left : (removed : Version) → ReadGoal
  Beyond : ReadGoal
