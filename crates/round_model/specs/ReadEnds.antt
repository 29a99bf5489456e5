-- How a reader's round ends.
use Rattle.structure_changes.specs.Versions.{Version}

-- A page that was named isn't there, or the round can't go round a removed index page, and a new round begins; a leaf on the way is
-- removed, and a round to the left of it begins; the leaf that has the key in its range; the removed leaf that has the key in its range, and the leaf to the left of it, which was read afterwards.
pub data ReadEnd : Type 0 where
  Again : ReadEnd
  Removed : (page : Version) → ReadEnd
  Leaf : (leaf : Version) → ReadEnd
  Beside : (left removed : Version) → ReadEnd
