-- What seats know: how views are dealt, cut and joined, and what a refreshed one is.
use Rattle.std.specs.Prelude.{◌≡◌, ℕ, zero, suc, List, [], ◌∷◌, map}
use Rattle.atomic_table.specs.Table.{Me, Step}
use Rattle.atomic_table.specs.Seated.{TableId}
use Rattle.tree_limits.specs.declared.limits.Limits.{Limits}
use Rattle.traces.specs.declared.trace.Entry.{Entry}
use Rattle.tree_words.specs.Layout.{width}
use Rattle.table_rule.specs.declared.view.Reach.{Reach}
use Rattle.table_rule.specs.declared.view.Reach.TheVariants.{Idle, Noted}
use Rattle.table_rule.specs.declared.view.Part.{Part}
use Rattle.table_rule.specs.Running.{BeginWithSteps, Each, ExtendsFor}

-- what a seat knows, and the slots that it holds, of which a tree's table has none
abbrev pub Mine : Type 0
Mine = Me (Unit {0}) (List Part)

abbrev pub part : Limits → ℕ → List Entry → Reach → Part
part limits actor seen reach = record { limits = limits; actor = actor; seen = seen; reach = reach }

-- the view of a seat of one actor
abbrev pub alone : Limits → ℕ → List Entry → Reach → List Part
alone limits actor seen reach = part limits actor seen reach ∷ []

-- the run that a seat of one actor has seen
abbrev pub seen_in : List Part → List Entry
seen_in [] = []
seen_in (part ∷ parts) = part.seen

abbrev pub seen_of : Mine → List Entry
seen_of me = seen_in me.0

-- a seat of this one actor, which stands there
abbrev pub SitsAt : Limits → ℕ → Reach → Mine → Type 0
SitsAt limits actor reach me = me ≡ (alone limits actor (seen_of me) reach, [])

-- The seat is one of the table, which has the words of a tree of these limits.
pub record IsOf (limits key : Limits) (table seat : TableId) : Type 0 where
  pub same : seat ≡ table
  pub wide : table.words ≡ width limits
  pub own : key ≡ limits

-- the parts of n actors from this one on, which have seen the empty run
abbrev pub dealt_from : Limits → ℕ → ℕ → List Part
dealt_from limits actor zero = []
dealt_from limits actor (suc n) = part limits actor [] Idle ∷ dealt_from limits (suc actor) n

-- the view of the seat with which a table opens: all actors
abbrev pub dealt : Limits → List Part
dealt limits = dealt_from limits 0 limits.actors

abbrev pub first_part : List Part → List Part
first_part [] = []
first_part (part ∷ parts) = part ∷ []

abbrev pub other_parts : List Part → List Part
other_parts [] = []
other_parts (part ∷ parts) = parts

-- a note of what the first part has seen
abbrev pub part_note : List Part → List Part
part_note [] = []
part_note (part ∷ parts) = record part { reach = Noted } ∷ []

-- a new seat, in which no actor stands
abbrev pub IsBlank : Mine → Type 0
IsBlank me = me ≡ ([], [])

-- the part once it has seen the run
abbrev pub with_run : List Entry → Part → Part
with_run run old = part old.limits old.actor run old.reach

-- The seat is refreshed: each part has now seen the longest run, which goes on from what it had seen, and in which each begin stands
-- directly before its operation's first step.
pub record IsRefreshed (law : List Entry → Type 0) (me me' : Mine) : Type 0 where
  pub run : List Entry
  pub legal : law run
  pub begins : BeginWithSteps run
  pub saw : me' ≡ (map (with_run run) me.0, me.1)
  pub extends : Each (λ part. ExtendsFor part.reach part.actor part.seen run) me.0

-- An operation can't say the table's limits, and takes those of the seat's first part.
abbrev pub Refreshes : (Limits → List Entry → Type 0) → Step (Unit {0}) → Mine → ℕ → Mine → Type 0
Refreshes law made me found me' = (first : Part) (others : List Part) → me.0 ≡ first ∷ others → IsRefreshed (law first.limits) me me'

-- a seat in which some actor of a tree of these limits stands
abbrev pub HasPart : Limits → List Part → Type 0
HasPart limits view = (first : Part) × (others : List Part) × (view ≡ first ∷ others) × (first.limits ≡ limits)
