-- What the theorem says of a run.
use Rattle.std.specs.Prelude.{List, Bool}
use Rattle.tree_limits.specs.declared.limits.Limits.{Limits}
use Rattle.traces.specs.declared.trace.Entry.{Entry}
use Rattle.traces.specs.declared.trace.Turn.{Turn}
use Rattle.traces.specs.trace.Run.{IsRunOf}
use Rattle.linearization.specs.Operations.{EndAtLeaves}
use Rattle.linearization.specs.Points.{HasPoints}
use Rattle.linearization.specs.Answered.{IsAnswered}
use Rattle.linearization.specs.Quiet.{IsQuiet}
use Rattle.linearization.specs.Faithful.{IsFaithful}
use Rattle.linearization.specs.Updates.{UpdatesAtLinks}
use Rattle.linearization.specs.Phases.{KeepsPhases}
use Rattle.linearization.specs.Index.{IsExactIndex}
use Rattle.linearization.specs.Changes.{HasFewChanges}
use Rattle.linearization.specs.Direct.{IsDirect}
use Rattle.linearization.specs.ReadersEnd.{ReadersEnd}
use Rattle.linearization.specs.Reuse.{IsFreedByRule}
use Rattle.linearization.specs.UntilRemoval.{MakesProgressUntilRemoval}
use Rattle.linearization.specs.Whole.{MakesProgress}

-- The entries are a run of the turns, in which each operation ends with its only Leave, with linearization points: each finished
-- operation replies what one ordered map replies at its point, or Tidied or Full, which have none and tell what it found; that map
-- is updated where a put or a delete is linked and by no other step; and each record that is read is the one whose row's name was
-- learnt.
pub record IsLinearized (limits : Limits) (turns : List Turn) (entries : List Entry) : Type 0 where
  pub run : IsRunOf limits turns entries
  pub ends : EndAtLeaves entries
  pub points : List Bool
  pub pointed : HasPoints entries points
  pub answered : IsAnswered limits entries points
  pub updates : UpdatesAtLinks limits entries points
  pub quiet : IsQuiet limits entries points
  pub faithful : IsFaithful limits entries

-- What stands beside it: the life of each page, the terms of each level, bounded steps, few changes, and the rule by which rows and PIDs are used
-- again. Changes of the tree, and the numbers that others take, pay for an operation's steps, it ends where it runs alone, and all together are
-- lock-free; and a reader takes few steps for each change of the tree. Until the first removal a reader takes few steps whatever others do, and the
-- rest of this holds by smaller numbers.
pub record IsOrderly (limits : Limits) (entries : List Entry) : Type 0 where
  pub phases : KeepsPhases limits entries
  pub index : IsExactIndex limits entries
  pub direct : IsDirect limits entries
  pub few_changes : HasFewChanges limits entries
  pub progress : MakesProgress limits entries
  pub readers : ReadersEnd limits entries
  pub until_removal : MakesProgressUntilRemoval limits entries
  pub freed : IsFreedByRule limits entries
