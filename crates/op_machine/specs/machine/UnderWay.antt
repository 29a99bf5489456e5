-- An operation that is under way, with the step that it wants, and how many steps it has left.
use Rattle.std.specs.Prelude.{ℕ, Bool, true, false, Option, Some, None, IsSome, ⊤}
use Rattle.tree_limits.specs.declared.limits.Limits.{Limits}
use Rattle.bw_model.specs.declared.step.Answer.{Answer}
use Rattle.bw_model.specs.declared.step.Step.{Step as StepOf}
use Rattle.deltas.specs.declared.record.Record.{Record}
use Rattle.traces.specs.discipline.Recalled.{Recalled, IsStepSpent, recall}
use Rattle.op_machine.specs.machine.GoesLeft.{GoesLeft}
use Rattle.op_parts.specs.Hands.{Hand}
use Rattle.op_machine.specs.machine.Ops.{Op, wanted_of}
use Rattle.op_machine.specs.machine.RoundSteps.{StepsInRound}
use Rattle.op_machine.specs.machine.Spending.{steps_left}

pub record UnderWay : Type 0 where
  pub op : Op
  pub wanted : StepOf Record

-- an operation by the step that it wants, if it wants one
abbrev pub asking : Op → Option (StepOf Record) → Option UnderWay
asking op None = None
asking op (Some wanted) = Some (record { op = op; wanted = wanted })

-- what is under way in the place of an operation
abbrev pub running_at : Bool → Op → Hand → Option UnderWay
running_at false op hand = None
running_at true op hand = asking op (wanted_of op hand)

-- an operation that is under way wants a step
abbrev pub AsksIf : Bool → Op → Hand → Type 0
AsksIf false op hand = ⊤
AsksIf true op hand = IsSome (wanted_of op hand)

-- how many steps an actor's operation takes at most, if it has one, but for those that a cause pays for
abbrev pub steps_due : Recalled → Hand → Option UnderWay → ℕ
steps_due r hand None = 0
steps_due r hand (Some running) = steps_left r running.op hand

-- A step is taken: of the steps that were left it has spent one, or a cause paid for more.
abbrev pub IsSpentBy : Limits → Recalled → Hand → Option UnderWay → StepOf Record → Answer Record → Hand → Option UnderWay → Type 0
IsSpentBy limits r had old step answer has new = IsStepSpent limits r step answer (steps_due r had old) (steps_due (recall r step answer) has new)

-- In a round, what was under way and what is then make of the answer what the round makes of it, and what follows its end.
abbrev pub StepsAt : Option UnderWay → Answer Record → Option UnderWay → Type 0
StepsAt None answer now = ⊤
StepsAt (Some old) answer None = ⊤
StepsAt (Some old) answer (Some new) = StepsInRound old.op.task old.op.state answer new.op.state

-- Where it meets a removed page with the answer, it goes to the left of that page.
abbrev pub GoesLeftAt : Option UnderWay → Answer Record → Option UnderWay → Type 0
GoesLeftAt None answer now = ⊤
GoesLeftAt (Some old) answer None = ⊤
GoesLeftAt (Some old) answer (Some new) = GoesLeft old.op.task old.op.state answer new.op.state
