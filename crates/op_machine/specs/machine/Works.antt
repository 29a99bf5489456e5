-- An operation after its sweep, over the spares alone.
use Rattle.std.specs.Prelude.{◌≡◌, ◌≤◌, ℕ, Option, IsSome}
use Rattle.bw_model.specs.declared.step.Step.{Step as StepOf}
use Rattle.bw_model.specs.declared.step.Answer.{Answer}
use Rattle.deltas.specs.declared.record.Record.{Record}
use Rattle.traces.specs.discipline.Knowledge.{Knowledge}
use Rattle.traces.specs.discipline.Recalled.{Recalled}
use Rattle.round_model.specs.Machines.{AreThere}
use Rattle.change_machine.specs.Spares.{Spares}
use Rattle.op_machine.specs.machine.Bounded.{IsSpentLast, LeavesFor, left_at, left_for, with_errands}
use Rattle.op_parts.specs.Hands.{Hand}
use Rattle.op_machine.specs.machine.Ops.{Op}
use Rattle.op_machine.specs.machine.RoundSteps.{StepsInRound}
use Rattle.op_machine.specs.machine.Outcomes.{Comes, Faces, IsToldAt, Outcome, lacks_at}
use Rattle.op_machine.specs.machine.Shows.{FitsLast, ShowsState, learn_last, recall_last, wanted_at}
use Rattle.op_machine.specs.machine.Tasks.{IsSameTask, Task}
use Rattle.op_machine.specs.machine.Wants.{Want, Step, Done}
use Rattle.op_machine.specs.machine.States.{State, Leave}
use Rattle.sweep.specs.Kept.{AreKept}

abbrev pub Works : Op → Spares → Knowledge → Recalled → Type 0
Works op spares k r = ShowsState op.task spares k r op.state

-- the step that it has asked for
abbrev pub asked_of : Op → Spares → Option (StepOf Record)
asked_of op spares = wanted_at spares op.state

-- Something is known that the operation shows, and the answer fits it.
pub record IsToldOn (op : Op) (spares : Spares) (told : Answer Record) : Type 0 where
  pub k : Knowledge
  pub r : Recalled
  pub works : Works op spares k r
  pub fits : FitsLast op.task.limits k (asked_of op spares) told

-- As `IsToldOn`, and what was read then is there.
pub record IsToldOnThere (is_there : ℕ → Record → Type 0) (op : Op) (spares : Spares) (told : Answer Record) : Type 0 where
  pub k : Knowledge
  pub r : Recalled
  pub works : Works op spares k r
  pub fits : FitsLast op.task.limits k (asked_of op spares) told
  pub there : AreThere is_there (learn_last k (asked_of op spares) told)

-- Something is known that the operation shows, the answer fits it, and the limbo list keeps what is known.
pub record IsToldWith (op : Op) (hand : Hand) (told : Answer Record) : Type 0 where
  pub told_on : IsToldOn op hand.spares told
  pub kept : AreKept op.task.limits op.task.actor hand.limbo told_on.k.limbo

-- Something is known that the state shows, the answer fits it, and the limbo list keeps what is known.
pub record IsToldChange (state : State) (hand : Hand) (told : Answer Record) : Type 0 where
  pub told_at : IsToldAt state hand.spares told
  pub kept : AreKept told_at.task.limits told_at.task.actor hand.limbo told_at.k.limbo

-- The answer turns a state into this one, whatever is known that the state shows: it goes on, or the operation has come to this.
pub record TurnsInto (old : State) (had : Spares) (told : Answer Record) (new : State) (has : Spares) (outcome : Option Outcome) : Type 0 where
  pub comes : (task : Task) (k : Knowledge) (r : Recalled) → ShowsState task had k r old → FitsLast task.limits k (wanted_at had old) told → Comes task k r (wanted_at had old) told new has outcome
  pub leaves : (task : Task) (k : Knowledge) (r : Recalled) → ShowsState task had k r old → FitsLast task.limits k (wanted_at had old) told
      → LeavesFor task.limits r (wanted_at had old) told (left_at task.limits r had old) new has outcome

-- It has fewer steps left, or a cause paid for more.
abbrev pub IsSpentOn : Recalled → Op → Spares → Answer Record → Op → Spares → Type 0
IsSpentOn r old had told new has =
    IsSpentLast old.task.limits r (asked_of old had) told (with_errands old.task.limits old.task.errands (left_at old.task.limits r had old.state))
    (with_errands old.task.limits new.task.errands (left_at old.task.limits (recall_last r (asked_of old had) told) has new.state))

-- The limbo list keeps what is known to be in limbo.
abbrev pub KeepsLimbo : Op → Hand → Answer Record → Hand → Type 0
KeepsLimbo old had told has = (k : Knowledge) (r : Recalled) → Works old had.spares k r → FitsLast old.task.limits k (asked_of old had.spares) told
    → AreKept old.task.limits old.task.actor had.limbo k.limbo → AreKept old.task.limits old.task.actor has.limbo (learn_last k (asked_of old had.spares) told).limbo

-- It has taken the answer and asks for a step: it shows what is known then, with fewer steps left, at the same task.
pub record AsksOn (old : Op) (had : Spares) (told : Answer Record) (new : Op) (has : Spares) : Type 0 where
  pub works : (k : Knowledge) (r : Recalled) → Works old had k r → FitsLast old.task.limits k (asked_of old had) told
      → Works new has (learn_last k (asked_of old had) told) (recall_last r (asked_of old had) told)
  pub spends : (k : Knowledge) (r : Recalled) → Works old had k r → FitsLast old.task.limits k (asked_of old had) told → IsSpentOn r old had told new has
  pub asks : IsSome (asked_of new has)
  pub same : IsSameTask old.task new.task
  pub sweep : new.sweep ≡ old.sweep
  pub steps : StepsInRound old.task old.state told new.state

-- It is done with the reply with which it was to leave.
abbrev pub LeavesWith : State → Want → Type 0
LeavesWith state (Step asked) = ⊥
LeavesWith state (Done reply) = state ≡ Leave reply (lacks_at state)

-- It goes from what it has come to into the state that follows, which asks for a step.
pub record FollowsOutcome (old : Op) (spares : Spares) (outcome : Outcome) (new : Op) : Type 0 where
  pub stands : (k : Knowledge) (r : Recalled) → Faces old.task spares k r outcome → Works new spares k r
  pub few : (k : Knowledge) (r : Recalled) → Faces old.task spares k r outcome
      → with_errands old.task.limits new.task.errands (left_at old.task.limits r spares new.state) ≤ with_errands old.task.limits old.task.errands (left_for old.task.limits outcome)
  pub asks : IsSome (asked_of new spares)
  pub same : IsSameTask old.task new.task
  pub sweep : new.sweep ≡ old.sweep
