-- Which leg of its way a reader's round is on.
use Rattle.std.specs.Prelude.{Bool, true, false, Option, None, Some, ⊤}
use Rattle.structure_changes.specs.Versions.{Version}

-- Down, before a removed index page was met, from the page above, where there is one; round a removed index page, to the page on its
-- left; on from there, down from the page above, where there is one since.
pub data Leg : Type 0 where
  Down : (above : Option Version) → Leg
  Round : (removed : Version) → Leg
  Past : (above : Option Version) → Leg

-- the leg of a round that goes down from a page
abbrev pub below : Version → Leg → Leg
below page (Down above) = Down (Some page)
below page (Round removed) = Round removed
below page (Past above) = Past (Some page)

-- the leg of a round that keeps no page above
abbrev pub level_on : Leg → Leg
level_on (Down above) = Down None
level_on (Round removed) = Round removed
level_on (Past above) = Past None

-- whether a removed index page was met
abbrev pub has_met : Leg → Bool
has_met (Down above) = false
has_met (Round removed) = true
has_met (Past above) = true

-- the page above, where there is one
abbrev pub above_of : Leg → Option Version
above_of (Down above) = above
above_of (Round removed) = None
above_of (Past above) = above

-- The round isn't on its way round a removed page.
abbrev pub IsPlain : Leg → Type 0
IsPlain (Down above) = ⊤
IsPlain (Round removed) = ⊥
IsPlain (Past above) = ⊤
