-- The sweep with which a writer's operation begins.
use Rattle.std.specs.Prelude.{◌≡◌, ◌<◌, Option, None, MatchOption, IfSome}
use Rattle.bw_model.specs.declared.step.Answer.{Answer}
use Rattle.bw_model.specs.declared.step.Step.{Step as StepOf}
use Rattle.deltas.specs.declared.record.Record.{Record}
use Rattle.traces.specs.discipline.Knowledge.{Knowledge}
use Rattle.traces.specs.discipline.Recalled.{Recalled}
use Rattle.epochs.specs.Limbo.{Limbo}
use Rattle.change_machine.specs.Spares.{Spares}
use Rattle.op_parts.specs.Hands.{Hand}
use Rattle.op_machine.specs.machine.Ops.{Goes, IsToldOp, Op, Shows, asked_by}
use Rattle.op_machine.specs.machine.Shows.{FitsLast, learn_last, recall_last}
use Rattle.op_machine.specs.machine.Spending.{sweep_left}
use Rattle.sweep.specs.Bounded.{steps_left}

abbrev pub with_limbo : Spares → Limbo → Hand
with_limbo spares limbo = record { spares = spares; limbo = limbo }

-- the step that the sweep has asked for
abbrev pub swept_by : Op → Option (StepOf Record)
swept_by op = asked_by op.sweep None

-- Something is known that the operation shows, and the answer fits it.
abbrev pub IsToldSweep : Op → Limbo → Answer Record → Type 0
IsToldSweep op limbo told = (spares : Spares) × IsToldOp op (with_limbo spares limbo) told

-- The sweep has moved on, if it isn't over.
abbrev pub MovesSweep : Op → Limbo → Answer Record → Op → Limbo → Type 0
MovesSweep old had told new has = (k : Knowledge) (r : Recalled) (spares : Spares) → Shows old (with_limbo spares had) k r → FitsLast old.task.limits k (swept_by old) told
    → Shows new (with_limbo spares has) (learn_last k (swept_by old) told) (recall_last r (swept_by old) told)

-- It wants its next step, or is over.
abbrev pub ObeysSweep : Op → Limbo → Answer Record → Op → Limbo → Option (StepOf Record) → Type 0
ObeysSweep old had told new has want = (k : Knowledge) (r : Recalled) (spares : Spares) → Shows old (with_limbo spares had) k r → FitsLast old.task.limits k (swept_by old) told
    → MatchOption want
    ((new.sweep ≡ None) × Shows new (with_limbo spares has) (learn_last k (swept_by old) told) (recall_last r (swept_by old) told))
    (λ asked. Goes (learn_last k (swept_by old) told) (recall_last r (swept_by old) told) new (with_limbo spares has) asked)

-- A sweep that goes on has fewer steps left.
abbrev pub HasFewer : Op → Op → Type 0
HasFewer old new = IfSome new.sweep (λ next. steps_left old.task.limits next.state < sweep_left old.task.limits old.sweep old.state)

-- All but the sweep stays.
pub record IsSameWork (old new : Op) : Type 0 where
  pub task : new.task ≡ old.task
  pub state : new.state ≡ old.state
