-- What a core keeps.
use Rattle.std.specs.Prelude.{◌≡◌, ℕ, List, length, Some, slice_get}
use Rattle.tree_limits.specs.declared.limits.Limits.{Limits}
use Rattle.traces.specs.declared.trace.Entry.{Entry}
use Rattle.traces.specs.discipline.Disciplined.{IsDisciplined}
use Rattle.traces.specs.discipline.Knowledge.{knows}
use Rattle.traces.specs.discipline.Recalled.{recalls}
use Rattle.core_memory.specs.Tables.{CoreTable, memory_in}
use Rattle.traces.specs.trace.Trace.{command_of, memory_of}
use Rattle.tree_law.specs.Changes.{IsPaidState}
use Rattle.tree_law.specs.Direct.{Accounts, IsDirectState}
use Rattle.tree_law.specs.State.{IsState}
use Rattle.op_machine.specs.machine.Actors.{Actor, IsActor, running_command}
use Rattle.op_machine.specs.machine.UnderWay.{steps_due}
use Rattle.progress.specs.ReaderStates.{IsReadersState, PaysReader}
use Rattle.progress.specs.WriterStates.{IsWritersState, PaysWriter}

-- Causes pay for the steps that the actor's operation has taken, and for those that it has left.
abbrev pub Pays : Limits → List Entry → ℕ → Actor → Type 0
Pays limits entries actor at = Accounts limits entries actor (steps_due (recalls entries actor) at.hand at.running)

-- The trace is one in which each actor obeyed its discipline, by few steps and few changes, and each reader by few for each change, and each writer met what is
-- gone seldom. The table has the memory after it; each actor
-- keeps what shows what the trace lets it know and recall, and runs what the trace says that it has not finished.
pub record IsCore (limits : Limits) (table : CoreTable) (actors : List Actor) (entries : List Entry) : Type 0 where
  pub state : IsState limits entries
  pub direct : IsDirectState limits entries
  pub paid : IsPaidState limits entries
  pub readers : IsReadersState limits entries
  pub writers : IsWritersState limits entries
  pub disciplined : IsDisciplined limits entries
  pub same_limits : table.limits ≡ limits
  pub has : memory_in table ≡ memory_of limits entries
  pub count : length actors ≡ limits.actors
  pub each_shows : (actor : ℕ) (at : Actor) → slice_get actors actor ≡ Some at → IsActor limits actor (knows entries actor) (recalls entries actor) at
  pub each_running : (actor : ℕ) (at : Actor) → slice_get actors actor ≡ Some at → running_command at ≡ command_of entries actor
  pub each_pays : (actor : ℕ) (at : Actor) → slice_get actors actor ≡ Some at → Pays limits entries actor at
  pub each_reads : (actor : ℕ) (at : Actor) → slice_get actors actor ≡ Some at → PaysReader limits entries actor at.running
  pub each_writes : (actor : ℕ) (at : Actor) → slice_get actors actor ≡ Some at → PaysWriter limits entries actor at.running
