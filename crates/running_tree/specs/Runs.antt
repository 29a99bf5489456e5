-- The runs of a running tree.
use Rattle.std.specs.Prelude.{List, map}
use Rattle.tree_limits.specs.declared.limits.Limits.{Limits}
use Rattle.traces.specs.declared.trace.Entry.{Entry}
use Rattle.traces.specs.trace.Trace.{turn_of}
pub use Rattle.table_rule.specs.Running.{StartsWith}
use Rattle.table_rule.specs.Running.{BeginWithSteps}
use Rattle.linearization.specs.Linearized.{IsLinearized, IsOrderly}
use Rattle.progress.specs.ReaderStates.{IsReadersState}
use Rattle.progress.specs.WriterStates.{IsWritersState}
use Rattle.tree_law.specs.Changes.{IsPaidState}
use Rattle.tree_law.specs.Direct.{IsDirectState}
use Rattle.tree_law.specs.State.{IsState}

-- Each actor obeyed its discipline, by few steps and few changes, and each reader by few for each change; and each writer met what is gone seldom.
pub record IsLawfulRun (limits : Limits) (run : List Entry) : Type 0 where
  pub state : IsState limits run
  pub direct : IsDirectState limits run
  pub paid : IsPaidState limits run
  pub readers : IsReadersState limits run
  pub writers : IsWritersState limits run

-- A run that a seat has seen: in it each begin stands directly before its operation's first step.
pub record IsSeenRun (limits : Limits) (run : List Entry) : Type 0 where
  pub lawful : IsLawfulRun limits run
  pub begins : BeginWithSteps run

-- What the theorem says of a run: its operations took effect one at a time, each at a step of its own, on one ordered map; and what
-- stands beside it, of pages, levels, steps, changes and freeing. Each begin stands directly before its operation's first step.
pub record IsOneHistory (limits : Limits) (run : List Entry) : Type 0 where
  pub linearized : IsLinearized limits (map turn_of run) run
  pub orderly : IsOrderly limits run
  pub begins : BeginWithSteps run
