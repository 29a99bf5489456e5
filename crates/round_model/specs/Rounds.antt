-- What reader's and writer's rounds have in common: how they are told answers, and what they make of the pages on their way.
use Rattle.std.specs.Prelude.{◌≡◌, ◌⊎◌, Option, Some, None, ⊤}
use Rattle.bw_model.specs.declared.step.Answer.{Answer}
use Rattle.deltas.specs.declared.record.Record.{Record}
use Rattle.traces.specs.discipline.Knowledge.{Knowledge, learn}
use Rattle.traces.specs.discipline.Recalled.{Recalled, recall}
use Rattle.structure_changes.specs.Versions.{Version}
use Rattle.round_model.specs.Descents.{Descent, Finds, Responds as Moves, WayState, wanted_step}
use Rattle.round_model.specs.Machines.{Machine}
use Rattle.round_model.specs.Visits.{Sight, Empty, Whole}

-- Of rounds of a kind: the way that a round goes, the round gone to a state, what is known of it and of its end; which pages it may meet,
-- what it does with one that was read whole, and how it ends where there is none.
pub record Rounds (Round End : Type 0) : Type 1 where
  pub way : Round → Descent
  pub at : Round → WayState → Round
  pub Shows : Round → Knowledge → Recalled → Type 0
  pub Ends : Round → Knowledge → Recalled → End → Type 0
  pub CanTreat : Round → Version → Type 0
  pub Treats : Round → Version → Round → Option End → Type 0
  pub again : End

abbrev pub machine : {Round End : Type 0} → Rounds Round End → Machine Round
machine rounds = record { limits = λ round. (rounds.way round).limits; wanted = λ round. wanted_step (rounds.way round); Shows = rounds.Shows }

-- what follows from an answer
abbrev pub Follows : {Round End : Type 0} → Rounds Round End → Knowledge → Recalled → Round → Answer Record → Round → Option End → Type 0
Follows rounds k r old told new None = rounds.Shows new (learn k (wanted_step (rounds.way old)) told) (recall r (wanted_step (rounds.way old)) told)
Follows rounds k r old told new (Some end) = rounds.Ends old (learn k (wanted_step (rounds.way old)) told) (recall r (wanted_step (rounds.way old)) told) end

-- a page was found that the round has reached, or none
abbrev pub CanSee : {Round End : Type 0} → Rounds Round End → Round → Sight → Type 0
CanSee rounds round Empty = ⊤
CanSee rounds round (Whole version) = rounds.CanTreat round version

-- what a round does with what a visit found
abbrev pub Sees : {Round End : Type 0} → Rounds Round End → Round → Sight → Round → Option End → Type 0
Sees rounds old Empty new result = result ≡ Some rounds.again
Sees rounds old (Whole version) new result = rounds.Treats old version new result

-- The round is on its way to a page, or its visit goes on.
pub record GoesOnWay {Round End : Type 0} (rounds : Rounds Round End) (old : Round) (told : Answer Record) (new : Round) (result : Option End) : Type 0 where
  pub on : Moves (rounds.way old) told (rounds.way new) None
  pub same : new ≡ rounds.at old (rounds.way new).state
  pub none : result ≡ None

-- The visit of a page ended.
pub record GoesFrom {Round End : Type 0} (rounds : Rounds Round End) (old : Round) (told : Answer Record) (new : Round) (result : Option End) : Type 0 where
  pub sight : Sight
  pub finds : Finds (rounds.way old) told sight
  pub sees : Sees rounds old sight new result

-- what a round makes of an answer
abbrev pub Responds : {Round End : Type 0} → Rounds Round End → Round → Answer Record → Round → Option End → Type 0
Responds rounds old told new result = GoesOnWay rounds old told new result ⊎ GoesFrom rounds old told new result
