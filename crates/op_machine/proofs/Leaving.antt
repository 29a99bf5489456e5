-- The leave is wanted in one state alone.
use Rattle.op_machine.proofs.Words.{◌≡◌, ◌≢◌, ℕ, Bool, Option, Some, None, true, false, refl, same_Some, Limits, Answer, StepOf, Record, Knowledge, VisitState, Reuse, Spares, wanted_number}
use Rattle.op_machine.proofs.Words.{ChangeState, Plan, Hand, is_leaving, Task, Sweep, SweepState}
use Rattle.bw_model.specs.declared.step.Step.TheVariants as step
use Rattle.round_model.specs.Descents as descent
use Rattle.round_model.specs.Visits as page
use Rattle.round_model.specs.Descents.{WayState as DescentState}
use Rattle.epochs.specs.Limbo.{Limbo}
use Rattle.epochs.specs.declared.item.Reuse.TheVariants as reuse
use Rattle.change_machine.specs.Changes as change
use Rattle.change_machine.specs.declared.change.State.TheVariants as change_state
use Rattle.change_machine.specs.declared.taking.Kind.TheVariants as kind
use Rattle.change_machine.specs.declared.taking.Taking.{Taking}
use Rattle.change_machine.specs.declared.taking.Taking.TheVariants as taking
use Rattle.op_machine.specs.machine.Ops.{EndsAtLeave, HoldsLimbo, IsToldOp, Op, asked_by}
use Rattle.op_machine.specs.machine.Shows.{wanted_at}
use Rattle.op_machine.specs.machine.Works.{LeavesWith}
use Rattle.op_machine.specs.machine.Wants.{Want, Step, Done}
use Rattle.op_machine.specs.machine.States.{State, Read, Write, Change, Leave}
use Rattle.sweep.specs.Sweeps as sweep
use Rattle.sweep.specs.declared.sweep.State.TheVariants as sweep_state

in_visit : (pid : ℕ) (state : VisitState) → page.wanted_at pid state ≢ step.Leave
in_visit pid page.Slot e = cc
in_visit pid (page.Row head row) e = cc

in_round : (state : DescentState) → descent.wanted_at state ≢ step.Leave
in_round descent.Root e = cc
in_round (descent.Page visit) e = in_visit visit.pid visit.state e

in_taking : (taken : Taking) → wanted_number taken ≢ step.Leave
in_taking (taking.Bits kind.Pid from word whole) e = cc
in_taking (taking.Take kind.Pid from number whole) e = cc
in_taking taken e = cc

in_change : (limits : Limits) (plan : Plan) (spares : Spares) (state : ChangeState) → change.wanted_at limits plan spares state ≢ step.Leave
in_change limits plan spares (change_state.Taking taken) e = in_taking taken e
in_change limits plan spares other e = cc

in_reuse : (given : Reuse) → sweep.step_of given ≢ step.Leave
in_reuse (reuse.Rows word bits) e = cc
in_reuse (reuse.Pids word bits) e = cc

in_sweep : (actor : ℕ) (state : SweepState) → sweep.wanted_at actor state ≢ step.Leave
in_sweep actor (sweep_state.Reuse given) e = in_reuse given e
in_sweep actor other e = cc

-- an operation that isn't at its leave wants another step
elsewhere : (spares : Spares) (swept : Option Sweep) (state : State) → is_leaving state ≡ false → asked_by swept (wanted_at spares state) ≢ Some step.Leave
elsewhere spares (Some swept) state on e = in_sweep swept.actor swept.state (same_Some (sweep.wanted_step swept) step.Leave e)
elsewhere spares None (Read round) on e = in_round round.state (same_Some (descent.wanted_at round.state) step.Leave e)
elsewhere spares None (Write round) on e = in_round round.state (same_Some (descent.wanted_at round.state) step.Leave e)
elsewhere spares None (Change now then) on e = in_change now.limits now.plan spares now.state (same_Some (change.wanted_at now.limits now.plan spares now.state) step.Leave e)
elsewhere spares other others on e = cc

pub leaves_at : (spares : Spares) (swept : Option Sweep) (state : State) → asked_by swept (wanted_at spares state) ≡ Some step.Leave → is_leaving state ≡ true
leaves_at spares swept state e = by_test (is_leaving state) refl
  where
    by_test : (b : Bool) → is_leaving state ≡ b → is_leaving state ≡ true
    by_test true is = is
    by_test false is = absurd (elsewhere spares swept state is e)

-- one that is at its leave wants it
at_leave : (task : Task) (spares : Spares) (limbo : Limbo) (k : Knowledge) (swept : Option Sweep) (state : State) → HoldsLimbo task state limbo k swept
    → is_leaving state ≡ true → asked_by swept (wanted_at spares state) ≡ Some step.Leave
at_leave task spares limbo k None (Leave reply lacks) holds on = refl
at_leave task spares limbo k (Some swept) (Leave reply lacks) holds on = let first = holds.first in cc
at_leave task spares limbo k swept other holds on = cc

pub goes_on : (old : Op) (had : Hand) (asked : StepOf Record) → is_leaving old.state ≡ false → EndsAtLeave old had (Step asked)
goes_on old had asked on = elsewhere had.spares old.sweep old.state on

pub ends : (old : Op) (had : Hand) (told : Answer Record) (want : Want) → IsToldOp old had told → is_leaving old.state ≡ true → LeavesWith old.state want → EndsAtLeave old had want
ends old had told (Step asked) is on left = absurd left
ends old had told (Done reply) is on left = at_leave old.task had.spares had.limbo is.k old.sweep old.state is.shows.limbo on
