-- Steps that name no number outside the limits, and place no record that a row can't spell or has no room for.
use Rattle.std.specs.Prelude.{◌≡◌, ◌<◌, ◌≤◌, ◌*◌, ◌^◌, ◌==◌, cond}
use Rattle.std.specs.Option.{ForSome}
use Rattle.tree_limits.specs.declared.limits.Limits.{Limits}
use Rattle.bw_model.specs.declared.step.Step.{Step as StepOf}
use Rattle.bw_model.specs.declared.step.Step.TheVariants as step
use Rattle.deltas.specs.declared.record.Record.{Record}
use Rattle.deltas.specs.Records.{next_row}
use Rattle.deltas.specs.Sizes.{row_from}
use Rattle.deltas.specs.Spellable.{IsSpellable}

-- The step names no number that has no place; a row can spell the record that it places, and this one has room for it.
abbrev pub IsWithin : Limits → StepOf Record → Type 0
IsWithin limits (step.Slot pid) = pid < limits.pids
IsWithin limits (step.Row row) = row < limits.rows
IsWithin limits step.Epoch = Unit {0}
IsWithin limits (step.Announce actor) = actor < limits.actors
IsWithin limits (step.PidBits word) = 64 * word < limits.pids
IsWithin limits (step.RowBits word) = 64 * word < limits.rows
IsWithin limits (step.Place row content) = (row < limits.rows) × ForSome (next_row content) (λ next. next < limits.rows) × IsSpellable content × (row_from limits content ≤ row)
IsWithin limits (step.Exchange slot old new) = (slot < limits.pids) × (old < cond (slot == 0) limits.pids limits.rows) × (new < cond (slot == 0) limits.pids limits.rows) × (slot ≡ 0 → 0 < new)
IsWithin limits (step.TakePid pid) = pid < limits.pids
IsWithin limits (step.TakeRow row) = row < limits.rows
IsWithin limits (step.Enter epoch) = Unit {0}
IsWithin limits step.Leave = Unit {0}
IsWithin limits (step.Retire epoch) = epoch < 2 ^ 62
IsWithin limits (step.ReusePids word bits) = (64 * word < limits.pids) × (bits < 2 ^ 64)
IsWithin limits (step.ReuseRows word bits) = (64 * word < limits.rows) × (bits < 2 ^ 64)
