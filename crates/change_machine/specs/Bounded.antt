-- How many steps a change takes at most, but for those that a cause pays for.
use Rattle.std.specs.Prelude.{◌≡◌, ◌<◌, ◌-◌, ◌+◌, ◌*◌, ◌⊎◌, ℕ, suc, List, if◌then◌else◌, Option, Some, None, Bool, true, false, ⊤}
use Rattle.tree_limits.specs.declared.limits.Limits.{Limits}
use Rattle.bw_model.specs.declared.step.Answer.{Answer}
use Rattle.bw_model.specs.declared.step.Answer.TheVariants.{Whether}
use Rattle.bw_model.specs.declared.step.Step.{Step as StepOf}
use Rattle.bw_model.specs.declared.step.Step.TheVariants.{TakePid}
use Rattle.deltas.specs.declared.record.Record.{Record}
use Rattle.traces.specs.discipline.Recalled.{IsPaid, IsSpentWith, Recalled, WasFree, WasHead, recall}
use Rattle.change_machine.specs.declared.change.End.{End}
use Rattle.change_machine.specs.declared.change.End.TheVariants.{Won, Lost, Full}
use Rattle.change_machine.specs.declared.change.State.{State}
use Rattle.change_machine.specs.declared.change.State.TheVariants.{Taking, Base, Ready, Place, Link, Undo, Clear}
use Rattle.structure_changes.specs.declared.plan.Plan.{Plan}
use Rattle.structure_changes.specs.declared.plan.Plan.TheVariants.{Split}
use Rattle.change_machine.specs.declared.taking.Taking.TheVariants.{Take}
use Rattle.change_machine.specs.Changes.{Change, wanted_step}
use Rattle.structure_changes.specs.Plans.{clears, head_of, needs_pid, slot_of}
use Rattle.change_machine.specs.Moves.{has_rows, lacks_lower}
use Rattle.change_machine.specs.Spares.{Spares}
use Rattle.change_machine.specs.Taking.{most_reads, number_left, recalled_words}

-- how many numbers are needed still
abbrev pub pids_missing : Bool → Option ℕ → ℕ
pids_missing false pid = 0
pids_missing true None = 1
pids_missing true (Some pid) = 0

abbrev pub rows_missing : Limits → Plan → List ℕ → ℕ
rows_missing limits plan rows = if has_rows limits plan rows then 0 else if lacks_lower limits plan rows then 2 else 1

abbrev pub numbers_missing : Limits → Plan → Spares → ℕ
numbers_missing limits plan spares = pids_missing (needs_pid plan) spares.pid + rows_missing limits plan spares.rows

-- How many steps a change takes at most from a state on, with the one that it has asked for: after a lost change that is undone,
-- and after a page is cleared, so many are to be left.
abbrev pub steps_left_at : Limits → ℕ → Plan → Spares → State → ℕ
steps_left_at limits after plan spares (Taking taking) = number_left limits taking + (most_reads limits * (numbers_missing limits plan spares - 1) + 5)
steps_left_at limits after plan spares Base = 4
steps_left_at limits after plan spares Ready = 3
steps_left_at limits after plan spares Place = 2
steps_left_at limits after plan spares Link = 1
steps_left_at limits after plan spares Undo = suc after
steps_left_at limits after plan spares Clear = suc after

abbrev pub steps_left : ℕ → Change → Spares → ℕ
steps_left after change spares = steps_left_at change.limits after change.plan spares change.state

-- how many steps a change takes at most
abbrev pub few_steps : Limits → ℕ
few_steps limits = most_reads limits * 3 + 8

-- what a cause is worth at least
abbrev pub worth : Limits → ℕ → ℕ
worth limits after = few_steps limits + after

-- The slot of the exchange that decides was read as what it is to hold; a number to take was read as free.
abbrev pub RecallsAt : Recalled → Plan → State → Type 0
RecallsAt r plan (Taking (Take kind from number whole)) = WasHead r (slot_of plan) (head_of plan) × WasFree (recalled_words r kind) number
RecallsAt r plan Undo = ⊤
RecallsAt r plan Clear = ⊤
RecallsAt r plan state = WasHead r (slot_of plan) (head_of plan)

-- The new page isn't the one that is split.
abbrev pub IsApart : Plan → Option ℕ → Type 0
IsApart (Split page plan) (Some pid) = pid ≡ page → ⊥
IsApart plan pid = ⊤

pub record Recalls (change : Change) (spares : Spares) (r : Recalled) : Type 0 where
  pub at : RecallsAt r change.plan change.state
  pub apart : IsApart change.plan spares.pid

-- the PID that a step took
abbrev pub pid_taken : StepOf Record → Answer Record → Option ℕ
pid_taken (TakePid pid) (Whether true) = Some pid
pid_taken asked told = None

-- A PID that is spare was so before, or was taken now.
abbrev pub IsPidFrom : Option ℕ → Option ℕ → Option ℕ → Type 0
IsPidFrom old taken None = ⊤
IsPidFrom old taken (Some pid) = (old ≡ Some pid) ⊎ (taken ≡ Some pid)

-- A change that goes on recalls what it has read, and has fewer steps left, or a cause paid for more. Where it has ended, a cause
-- paid, or what has to be left is left: a page is cleared by what its exchange that decides has paid.
abbrev pub SpendsTo : ℕ → Recalled → Change → Spares → Answer Record → Change → Spares → Option End → Type 0
SpendsTo after r old had told new has None =
    Recalls new has (recall r (wanted_step old had) told) × IsSpentWith (worth old.limits after) r (wanted_step old had) told (steps_left after old had) (steps_left after new has)
SpendsTo after r old had told new has (Some Won) = IsPaid r (wanted_step old had) told ⊎ ((clears old.plan ≡ true) × (after < steps_left after old had))
SpendsTo after r old had told new has (Some Lost) = IsPaid r (wanted_step old had) told ⊎ (after < steps_left after old had)
SpendsTo after r old had told new has (Some (Full kind)) = 0 < steps_left after old had

abbrev pub Spends : Change → Spares → Answer Record → Change → Spares → Option End → Type 0
Spends old had told new has end = (after : ℕ) (r : Recalled) → Recalls old had r → IsApart old.plan (pid_taken (wanted_step old had) told) → SpendsTo after r old had told new has end
