-- One step of an operation: how many steps it has left.
use Rattle.std.proofs.Common.{◌≡◌, ◌<◌, ◌+◌, ◌*◌, ℕ, length, Option, Some, None, inl, arith}
use Rattle.op_machine.proofs.Words.{Limits, Answer, StepOf, Record, IsStepSpent, Recalled, recall, Reuse, Rows, Pids, Spares, Hand, IsSpentLast, left_at, one_round, asked_by, wanted_of}
use Rattle.op_machine.proofs.Words.{sweep_left, UnderWay}
use Rattle.bw_model.specs.declared.step.Step.TheVariants as step
use Rattle.op_machine.specs.machine.Shows.{recall_last, wanted_at}
use Rattle.op_machine.specs.machine.States.{State, Begun, Epoch, Enter}
use Rattle.sweep.specs.Sweeps.{Sweep, step_of, wanted_at as wanted_at_sweep}
use Rattle.sweep.specs.declared.sweep.State as sweeping
use Rattle.sweep.specs.declared.sweep.State.TheVariants as at_sweep
use Rattle.op_machine.specs.machine.UnderWay.{IsSpentBy}

-- what an answer leaves, where the step that was wanted is known
pub spent_last : (limits : Limits) (r : Recalled) (last : Option (StepOf Record)) (asked : StepOf Record) (a : Answer Record) (left : ℕ) (rest : Recalled → ℕ)
    → last ≡ Some asked → IsSpentLast limits r last a left (rest (recall_last r last a)) → IsStepSpent limits r asked a left (rest (recall r asked a))
spent_last limits r last asked a left rest e spent = rw e at spent

-- a state that has asked for Leave has a step left
leaves : (limits : Limits) (r : Recalled) (spares : Spares) (state : State) → wanted_at spares state ≡ Some step.Leave → 0 < left_at limits r spares state
leaves limits r spares Begun e = cc
leaves limits r spares Epoch e = cc
leaves limits r spares (Enter epoch) e = cc
leaves limits r spares other e = omega arith

-- and so has a sweep, which asks for none
stays : (limits : Limits) (r : Recalled) (spares : Spares) (sweep : Option Sweep) (state : State) → asked_by sweep (wanted_at spares state) ≡ Some step.Leave
    → 0 < sweep_left limits sweep state + left_at limits r spares state
stays limits r spares None state e = let some = leaves limits r spares state e in omega (arith, some)
stays limits r spares (Some sweep) state e = absurd (sweeps_on sweep.actor sweep.state e)
  where
    reuses : (reuse : Reuse) → Some (step_of reuse) ≡ Some step.Leave → ⊥
    reuses (Rows word bits) e = cc
    reuses (Pids word bits) e = cc

    sweeps_on : (actor : ℕ) (state : sweeping.State) → Some (wanted_at_sweep actor state) ≡ Some step.Leave → ⊥
    sweeps_on actor (at_sweep.Reuse reuse) e = reuses reuse e
    sweeps_on actor other e = cc

more : (n m : ℕ) → 0 < n → 0 < n + m
more n m some = omega arith

-- it is done
pub spends_last : (r : Recalled) (had has : Hand) (old : UnderWay) (a : Answer Record) → wanted_of old.op had ≡ Some step.Leave → IsSpentBy old.op.task.limits r had (Some old) old.wanted a has None
spends_last r had has old a e =
    inl (more (sweep_left old.op.task.limits old.op.sweep old.op.state + left_at old.op.task.limits r had.spares old.op.state)
    (one_round old.op.task.limits * length old.op.task.errands) (stays old.op.task.limits r had.spares old.op.sweep old.op.state e))
