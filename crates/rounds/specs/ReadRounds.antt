-- A reader's round in its place: its pages stand in it, and an end names them there.
use Rattle.std.specs.Prelude.{◌≡◌, ℕ, Bool, Option, Some, None, true, false, IfSome, ⊤}
use Rattle.deltas.specs.declared.record.Record.{Record}
use Rattle.traces.specs.chain.Chains.{is_removed, level_in}
use Rattle.structure_changes.specs.Reads.{IsReadPage}
use Rattle.structure_changes.specs.Versions.{Version}
use Rattle.round_model.specs.ReadRounds as rounds
use Rattle.round_model.specs.ReadLegs.{Leg, Down, Round, Past, IsPlain}
use Rattle.round_model.specs.Walks.{IsReached}
use Rattle.round_model.specs.Ways.{LeadsDown}
use Rattle.round_model.specs.ReadGoals.{ReadGoal}
use Rattle.round_model.specs.ReadGoals as goal
use Rattle.round_model.specs.ReadEnds.{ReadEnd}
use Rattle.round_model.specs.ReadEnds as end
use Rattle.rounds.specs.declared.read_round.ReadGoalKind.{ReadGoalKind}
use Rattle.rounds.specs.declared.read_round.ReadGoalKind.TheVariants.{Seek, Left, Beyond}
use Rattle.rounds.specs.declared.read_round.ReadEndKind.{ReadEndKind}
use Rattle.rounds.specs.declared.read_round.ReadEndKind.TheVariants.{Again, Removed, Leaf, Beside}

-- The round, the page in hand, which was read whole last, the page that is kept aside, and the one that stands in the place of the page
-- above, or of the removed page that the round goes round.
pub record PlacedRead : Type 0 where
  pub round : rounds.ReadRound
  pub page : Version
  pub aside : Version
  pub met : Version

-- where a round goes first, where the page to whose left it goes is the one that is kept aside
abbrev pub read_goal : ReadGoalKind → Version → ReadGoal
read_goal Seek aside = goal.Seek
read_goal Left aside = goal.Left aside
read_goal Beyond aside = goal.Beyond

-- an end with the pages that it is about, as they stand in the round
abbrev pub ended_read : PlacedRead → ReadEndKind → ReadEnd
ended_read round Again = end.Again
ended_read round Removed = end.Removed round.page
ended_read round Leaf = end.Leaf round.page
ended_read round Beside = end.Beside round.page round.aside

-- a page that was named isn't there, or the round reads on
abbrev pub read_again_if : Bool → Option ReadEnd
read_again_if false = None
read_again_if true = Some end.Again

-- the page to whose left a round goes is there
abbrev pub IsReadGoal : (ℕ → Record → Type 0) → ReadGoal → Type 0
IsReadGoal is_there goal.Seek = ⊤
IsReadGoal is_there (goal.Left removed) = IsReadPage is_there removed
IsReadGoal is_there goal.Beyond = ⊤

-- so is the page above, or the removed page that a round goes round
abbrev pub IsReadLeg : (ℕ → Record → Type 0) → Leg → Type 0
IsReadLeg is_there (Down above) = IfSome above (IsReadPage is_there)
IsReadLeg is_there (Round removed) = IsReadPage is_there removed
IsReadLeg is_there (Past above) = IfSome above (IsReadPage is_there)

-- The page was read, and the pages that the round keeps: their records are there.
pub record AreReadFor (is_there : ℕ → Record → Type 0) (round : rounds.ReadRound) (version : Version) : Type 0 where
  pub page : IsReadPage is_there version
  pub aside : IsReadGoal is_there round.goal
  pub leg : IsReadLeg is_there round.leg

-- The page isn't removed, and the round has reached it on the way of its goal.
pub record CanGoOn (round : rounds.ReadRound) (version : Version) : Type 0 where
  pub plain : IsPlain round.leg
  pub alive : is_removed version.chain ≡ false
  pub reached : IsReached round.limits (rounds.read_way round.goal round.key) version
  pub passes : rounds.CanPass round.limits version round.goal

-- The page above leads to the left of the page.
abbrev pub LeadsLeft : Version → Leg → ℕ → Type 0
LeadsLeft version (Down None) next = ⊥
LeadsLeft version (Down (Some above)) next = LeadsDown (rounds.left_of version) above.chain next
LeadsLeft version (Round removed) next = ⊥
LeadsLeft version (Past None) next = ⊥
LeadsLeft version (Past (Some above)) next = LeadsDown (rounds.left_of version) above.chain next

-- The page isn't removed, and is of the removed page's level.
pub record IsOnLevelOf (version removed : Version) : Type 0 where
  pub alive : is_removed version.chain ≡ false
  pub same : level_in version.chain ≡ level_in removed.chain
