-- A row is read by a round alone.
use Rattle.op_machine.proofs.Words.{◌≡◌, ℕ, Option, Some, None, true, false, refl, Limits, Record, Fits, Knowledge, Reuse, Spares, wanted_number, ChangeState, Plan, asked_by, has_begun}
use Rattle.op_machine.proofs.Words.{is_changing, Sweep, SweepState}
use Rattle.bw_model.specs.declared.step.Answer.TheVariants.{Content}
use Rattle.epochs.specs.declared.item.Reuse.TheVariants as reuse
use Rattle.change_machine.specs.Changes as change
use Rattle.change_machine.specs.declared.change.State.TheVariants as change_state
use Rattle.change_machine.specs.declared.taking.Kind.TheVariants as kind
use Rattle.change_machine.specs.declared.taking.Taking.{Taking}
use Rattle.change_machine.specs.declared.taking.Taking.TheVariants as taking
use Rattle.op_machine.specs.machine.Shows.{FitsLast, wanted_at}
use Rattle.op_machine.specs.machine.States.{State, Begun, Change}
use Rattle.sweep.specs.Sweeps as sweep
use Rattle.sweep.specs.declared.sweep.State.TheVariants as sweep_state

module _ (limits : Limits) (k : Knowledge) (row : Record) where
  -- no change asks for one,
  in_taking : (taken : Taking) → Fits limits k (wanted_number taken) (Content row) → ⊥
  in_taking (taking.Bits kind.Pid from word whole) fits = fits
  in_taking (taking.Take kind.Pid from number whole) fits = fits
  in_taking taken fits = fits

  in_change : (own : Limits) (plan : Plan) (spares : Spares) (state : ChangeState) → Fits limits k (change.wanted_at own plan spares state) (Content row) → ⊥
  in_change own plan spares (change_state.Taking taken) fits = in_taking taken fits
  in_change own plan spares other fits = fits

  pub still : (spares : Spares) (state : State) → FitsLast limits k (wanted_at spares state) (Content row) → is_changing state ≡ false
  still spares (Change now then) fits = absurd (in_change now.limits now.plan spares now.state fits)
  still spares other fits = refl

  -- and no sweep
  in_reuse : (given : Reuse) → Fits limits k (sweep.step_of given) (Content row) → ⊥
  in_reuse (reuse.Rows word bits) fits = fits
  in_reuse (reuse.Pids word bits) fits = fits

  in_sweep : (actor : ℕ) (state : SweepState) → Fits limits k (sweep.wanted_at actor state) (Content row) → ⊥
  in_sweep actor (sweep_state.Reuse given) fits = in_reuse given fits
  in_sweep actor other fits = fits

  pub begun : (spares : Spares) (swept : Option Sweep) (state : State) → FitsLast limits k (asked_by swept (wanted_at spares state)) (Content row) → has_begun state ≡ true
  begun spares None Begun fits = cc
  begun spares (Some swept) Begun fits = absurd (in_sweep swept.actor swept.state fits)
  begun spares swept other fits = refl
