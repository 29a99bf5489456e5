-- A record more makes the page that it applies to.
use Rattle.listing.proofs.Words.{◌≡◌, ◌<◌, ℕ, zero, suc, List, [], ◌∷◌, length, get_or, drop, arith, Page, Record, Makes}
use Rattle.deltas.specs.Applies.{Applies}
use Rattle.traces.proofs.FittedLaws.{Makes-next}

pub next_makes : (chain : List Record) (place : ℕ) → place < length chain → (delta : Record) → delta ≡ get_or chain place delta
    → (page made : Page) → Makes (drop (suc place) chain) page → Applies page delta made → Makes (drop place chain) made
next_makes [] place within delta at page made makes applies = absurd (omega (arith, within))
next_makes (newest ∷ under) zero within delta at page made makes applies = Makes-next under newest page made makes (rw (← at) applies)
next_makes (newest ∷ under) (suc place) within delta at page made makes applies = next_makes under place (omega (arith, within)) delta at page made makes applies
