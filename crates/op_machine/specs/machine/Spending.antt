-- How many steps an operation has left, its sweep included.
use Rattle.std.specs.Prelude.{◌+◌, ℕ, Option, Some, None, ⊤}
use Rattle.tree_limits.specs.declared.limits.Limits.{Limits}
use Rattle.bw_model.specs.declared.step.Answer.{Answer}
use Rattle.deltas.specs.declared.record.Record.{Record}
use Rattle.traces.specs.discipline.Knowledge.{Knowledge}
use Rattle.traces.specs.discipline.Recalled.{Recalled}
use Rattle.op_machine.specs.machine.Bounded.{IsSpentLast, left_at, with_errands}
use Rattle.op_parts.specs.Hands.{Hand}
use Rattle.op_machine.specs.machine.Ops.{Op, Shows, wanted_of}
use Rattle.op_machine.specs.machine.Shows.{FitsLast, recall_last}
use Rattle.op_machine.specs.machine.Wants.{Want, Step, Done}
use Rattle.op_machine.specs.machine.States.{State, Begun}
use Rattle.sweep.specs.Bounded as sweep
use Rattle.sweep.specs.Sweeps.{Sweep}

-- how many steps the sweep has left at most: before the operation has begun, all of them
abbrev pub sweep_left : Limits → Option Sweep → State → ℕ
sweep_left limits (Some now) state = sweep.steps_left limits now.state
sweep_left limits None Begun = sweep.most_steps limits + 1
sweep_left limits None state = 0

abbrev pub steps_left : Recalled → Op → Hand → ℕ
steps_left r op hand = with_errands op.task.limits op.task.errands (sweep_left op.task.limits op.sweep op.state + left_at op.task.limits r hand.spares op.state)

-- An operation that goes on has fewer steps left, or a cause paid for more.
abbrev pub SpendsSteps : Recalled → Op → Hand → Answer Record → Op → Hand → Want → Type 0
SpendsSteps r old had told new has (Step asked) = IsSpentLast old.task.limits r (wanted_of old had) told (steps_left r old had) (steps_left (recall_last r (wanted_of old had) told) new has)
SpendsSteps r old had told new has (Done reply) = ⊤

abbrev pub Spends : Op → Hand → Answer Record → Op → Hand → Want → Type 0
Spends old had told new has want = (k : Knowledge) (r : Recalled) → Shows old had k r → FitsLast old.task.limits k (wanted_of old had) told → SpendsSteps r old had told new has want
