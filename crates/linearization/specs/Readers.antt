-- What an operation's steps are for: a reader only reads.
use Rattle.std.specs.Prelude.{◌≡◌, Some, false, ⊤}
use Rattle.bw_model.specs.Replies.{is_writer}
use Rattle.bw_model.specs.declared.command.Command.{Command}
use Rattle.bw_model.specs.declared.step.Step.{Step as StepOf}
use Rattle.bw_model.specs.declared.step.Step.TheVariants.{Slot, Row, Epoch, Enter, Leave}
use Rattle.deltas.specs.declared.record.Record.{Record}
use Rattle.traces.specs.discipline.Knowledge.{Knowledge}
use Rattle.traces.specs.discipline.Useful.{IsUseful}

-- The step reads, or enters or leaves the epoch.
abbrev pub IsReading : StepOf Record → Type 0
IsReading (Slot slot) = ⊤
IsReading (Row row) = ⊤
IsReading Epoch = ⊤
IsReading (Enter epoch) = ⊤
IsReading Leave = ⊤
IsReading step = ⊥

-- The step is of use for the command that its actor is asked: a base goes only where there are deltas, and a reader only reads.
pub record IsOfUse (k : Knowledge) (step : StepOf Record) : Type 0 where
  pub useful : IsUseful k step
  pub command : Command
  pub going : k.asked.command ≡ Some command
  pub reads : is_writer command ≡ false → IsReading step
