-- A step whose record is lent from where it lies.
use Rattle.std.specs.Borrow.{Bor}
use Rattle.bw_model.specs.declared.step.Step.{Step as StepOf}
use Rattle.bw_model.specs.declared.step.Step.TheVariants as step

module _ {R : Type 0} where
  -- the step, with the record that is lent
  abbrev pub step_of_loan : StepOf (Bor R) → StepOf R
  step_of_loan (step.Slot pid) = step.Slot pid
  step_of_loan (step.Row row) = step.Row row
  step_of_loan step.Epoch = step.Epoch
  step_of_loan (step.Announce actor) = step.Announce actor
  step_of_loan (step.PidBits word) = step.PidBits word
  step_of_loan (step.RowBits word) = step.RowBits word
  step_of_loan (step.Place row content) = step.Place row content.now
  step_of_loan (step.Exchange slot old new) = step.Exchange slot old new
  step_of_loan (step.TakePid pid) = step.TakePid pid
  step_of_loan (step.TakeRow row) = step.TakeRow row
  step_of_loan (step.Enter epoch) = step.Enter epoch
  step_of_loan step.Leave = step.Leave
  step_of_loan (step.Retire epoch) = step.Retire epoch
  step_of_loan (step.ReusePids word bits) = step.ReusePids word bits
  step_of_loan (step.ReuseRows word bits) = step.ReuseRows word bits
