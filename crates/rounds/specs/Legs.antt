-- On which leg of its way a reader's round is, over a place for a page.
use Rattle.std.specs.Prelude.{None, Some, ⊤}
use Rattle.structure_changes.specs.Versions.{Version}
use Rattle.round_model.specs.ReadLegs as legs
use Rattle.rounds.specs.declared.leg.LegKind.{LegKind}
use Rattle.rounds.specs.declared.leg.LegKind.TheVariants.{Top, Below, Round, Past, PastBelow}

-- The leg, and the page that stands in the place, whether it is kept or was before.
pub record PlacedLeg : Type 0 where
  pub leg : legs.Leg
  pub page : Version

-- the leg, where the page in the place is the one above, or the removed one
abbrev pub leg_of : LegKind → Version → legs.Leg
leg_of Top page = legs.Down None
leg_of Below page = legs.Down (Some page)
leg_of Round page = legs.Round page
leg_of Past page = legs.Past None
leg_of PastBelow page = legs.Past (Some page)

-- The round keeps no page above, and isn't on its way round a removed page.
abbrev pub IsPlainWithout : legs.Leg → Type 0
IsPlainWithout (legs.Down None) = ⊤
IsPlainWithout (legs.Down (Some above)) = ⊥
IsPlainWithout (legs.Round removed) = ⊥
IsPlainWithout (legs.Past None) = ⊤
IsPlainWithout (legs.Past (Some above)) = ⊥
