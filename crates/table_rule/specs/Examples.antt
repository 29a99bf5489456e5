-- Moments of a table of two actors, without words.
use Rattle.std.specs.Prelude.{List, [], ◌∷◌}
use Rattle.tree_limits.specs.declared.limits.Limits.{Limits}
use Rattle.table_rule.specs.declared.view.Part.{Part}
use Rattle.table_rule.specs.declared.view.Reach.TheVariants.{Idle, Noted}
use Rattle.table_rule.specs.Moments.{Moment}
use Rattle.table_rule.specs.Views.{part}

abbrev pub moment : List (List Part) → Moment
moment views = record { words = []; homes = []; views = views }

-- both actors in one seat; then each in a seat of its own; then there is a note of the first one; then the second one has taken the note in
abbrev pub together : Limits → Moment
together limits = moment ((part limits 0 [] Idle ∷ part limits 1 [] Idle ∷ []) ∷ [])

abbrev pub apart : Limits → Moment
apart limits = moment ((part limits 0 [] Idle ∷ []) ∷ (part limits 1 [] Idle ∷ []) ∷ [])

abbrev pub noted : Limits → Moment
noted limits = moment ((part limits 0 [] Idle ∷ []) ∷ (part limits 1 [] Idle ∷ []) ∷ (part limits 0 [] Noted ∷ []) ∷ [])

abbrev pub heeded : Limits → Moment
heeded limits = moment ((part limits 0 [] Idle ∷ []) ∷ (part limits 1 [] Idle ∷ part limits 0 [] Noted ∷ []) ∷ [] ∷ [])
