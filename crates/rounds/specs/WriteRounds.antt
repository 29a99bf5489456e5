-- A writer's round in its place: its pages stand in it, and an end names them there.
use Rattle.std.specs.Prelude.{ℕ, Bool, true, false, Option, Some, None, IfSome, ⊤}
use Rattle.deltas.specs.declared.record.Record.{Record}
use Rattle.structure_changes.specs.declared.after.After.{After}
use Rattle.structure_changes.specs.declared.plan.Plan.{Plan}
use Rattle.structure_changes.specs.Reads.{IsReadPage}
use Rattle.structure_changes.specs.Versions.{Version}
use Rattle.round_model.specs.Courses.{WriteGoal, Seek, Left}
use Rattle.round_model.specs.Courses as goal
use Rattle.round_model.specs.WriteRounds as rounds
use Rattle.round_model.specs.WriteEnds.{WriteEnd}
use Rattle.round_model.specs.WriteEnds as end
use Rattle.rounds.specs.declared.write_end_kind.WriteEndKind.{WriteEndKind}
use Rattle.rounds.specs.declared.write_end_kind.WriteEndKind.TheVariants.{Again, Removed, Due, Leaf, Done}

-- The round, the page in hand, which was read whole last, the pages that stand in the places of the parent and of the left page, and the change
-- in the place of one that is due, with what comes once it has won.
pub record PlacedWrite : Type 0 where
  pub round : rounds.WriteRound
  pub page : Version
  pub parent : Version
  pub left : Version
  pub plan : Plan
  pub after : After

-- an end with the pages that it is about and the change that is due, as they stand in the round
abbrev pub ended_write : PlacedWrite → WriteEndKind → WriteEnd
ended_write round Again = end.Again
ended_write round Removed = end.Removed round.page
ended_write round Due = end.Due round.plan round.after
ended_write round Leaf = end.Leaf round.round.parent round.page
ended_write round Done = end.Done

-- a page that was named isn't there, or the round reads on
abbrev pub write_again_if : Bool → Option WriteEnd
write_again_if false = None
write_again_if true = Some end.Again

-- by the goal: the pages that the round keeps to end with the removed one were read, and their records are there
abbrev pub IsGoalRead : (ℕ → Record → Type 0) → WriteGoal → Type 0
IsGoalRead is_there Seek = ⊤
IsGoalRead is_there (Left pid) = ⊤
IsGoalRead is_there (goal.Merge left) = IsReadPage is_there left
IsGoalRead is_there (goal.Unterm parent left) = IsReadPage is_there parent × IsReadPage is_there left

-- The page and those that the round keeps were read, and their records are there.
pub record AreReadToWrite (is_there : ℕ → Record → Type 0) (round : rounds.WriteRound) (version : Version) : Type 0 where
  pub page : IsReadPage is_there version
  pub parent : IfSome round.parent (IsReadPage is_there)
  pub left : IfSome round.left (IsReadPage is_there)
  pub goal : IsGoalRead is_there round.goal
