-- Where a writer's round goes, and the pages that it keeps on the way.
use Rattle.std.specs.Prelude.{ℕ, Option, None, Some}
use Rattle.structure_changes.specs.Versions.{Version}

-- To the leaf of the key; to the page to the left of this removed page, which begins at the key; to the removed page, which is to
-- come into this left one; to the removed page, whose term the parent is to lose, as the page shows that would have it to its right.
pub data WriteGoal : Type 0 where
  Seek : WriteGoal
  Left : (pid : ℕ) → WriteGoal
  Merge : (left : Version) → WriteGoal
  Unterm : (parent left : Version) → WriteGoal

-- Where a round goes; the parent of the pages that are read; the page to whose right the round has gone, until that one was read.
pub record Course : Type 0 where
  pub goal : WriteGoal
  pub parent : Option Version
  pub left : Option Version

-- the page to the left of this removed page, or the leaf of the key
abbrev pub down_to : Option ℕ → WriteGoal
down_to None = Seek
down_to (Some pid) = Left pid

-- the removed page to whose left a goal is
abbrev pub removed_of : WriteGoal → Option ℕ
removed_of Seek = None
removed_of (Left pid) = Some pid
removed_of (Merge left) = None
removed_of (Unterm parent left) = None
