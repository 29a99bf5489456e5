-- What an actor of a core has of the memory.
use Rattle.std.specs.Prelude.{ℕ, List, Option, Some, None, map}
use Rattle.bw_model.specs.declared.command.Command.{Command}
use Rattle.tree_limits.specs.declared.limits.Limits.{Limits}
use Rattle.bw_model.specs.declared.step.Answer.{Answer}
use Rattle.bw_model.specs.declared.step.Step.{Step as StepOf}
use Rattle.deltas.specs.declared.record.Record.{Record}
use Rattle.deltas.specs.Memory.{Memory}
use Rattle.op_machine.specs.machine.Actors.{Actor, IsActor, running_command, wanted_by}
use Rattle.traces.specs.discipline.Fitting.{Fits}
use Rattle.traces.specs.discipline.Knowledge.{Knowledge}
use Rattle.traces.specs.discipline.Recalled.{Recalled}
use Rattle.traces.specs.trace.Steps.{IsAnswer}
use Rattle.core_memory.specs.Looks.{StandsIn}
use Rattle.core_memory.specs.Tables.{CoreTable, IsWithinTable}
use Rattle.round_model.specs.Machines.{AreThere}
use Rattle.step_core.specs.Turns.{EndsPage}

-- Whatever the memory answers to the step fits what the actor knows.
abbrev pub IsServed : Limits → Knowledge → Memory → StepOf Record → Type 0
IsServed limits k memory step = (answer : Answer Record) → IsAnswer memory step answer → Fits limits k step answer

-- the same of a step that is wanted
abbrev pub IsServedAt : Limits → Knowledge → Memory → Option (StepOf Record) → Type 0
IsServedAt limits k memory None = Unit {0}
IsServedAt limits k memory (Some wanted) = IsServed limits k memory wanted

-- What the actor keeps shows what it knows, what the memory answers to the step that it wants will fit that, and the records that it has read
-- stand in the memory.
abbrev pub IsReady : Limits → ℕ → Knowledge → Recalled → Memory → Actor → Type 0
IsReady limits actor k r memory at = IsActor limits actor k r at × IsServedAt limits k memory (wanted_by at.running) × AreThere (StandsIn memory) k

-- the step that each actor's operation wants, if it has one
abbrev pub wanted_in : List Actor → List (Option (StepOf Record))
wanted_in actors = map (λ (at : Actor). wanted_by at.running) actors

-- the step that is wanted ends a page of either direction
abbrev pub IsPageEnd : Option Command → Option (StepOf Record) → Type 0
IsPageEnd command None = ⊥
IsPageEnd command (Some wanted) = EndsPage command wanted

-- the step that its operation wants ends a page of either direction
abbrev pub NeedsRoom : Actor → Type 0
NeedsRoom at = IsPageEnd (running_command at) (wanted_by at.running)

-- the table has what the step that is wanted asks for
abbrev pub IsWithinAt : CoreTable → ℕ → Option (StepOf Record) → Type 0
IsWithinAt table actor None = Unit {0}
IsWithinAt table actor (Some wanted) = IsWithinTable table actor wanted
