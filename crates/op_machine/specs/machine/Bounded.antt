-- How many steps an operation takes at most, but for those that a cause pays for.
use Rattle.std.specs.Prelude.{◌<◌, ◌+◌, ◌*◌, ℕ, List, length, Option, None, Some}
use Rattle.tree_limits.specs.declared.limits.Limits.{Limits}
use Rattle.bw_model.specs.declared.step.Answer.{Answer}
use Rattle.bw_model.specs.declared.step.Step.{Step as StepOf}
use Rattle.deltas.specs.declared.record.Record.{Record}
use Rattle.traces.specs.discipline.Recalled.{Recalled, IsStepSpent, few_reads}
use Rattle.round_model.specs.ReadRounds as read
use Rattle.round_model.specs.WriteRounds as write
use Rattle.round_model.specs.ReadEnds as read_end
use Rattle.round_model.specs.WriteEnds as write_end
use Rattle.change_machine.specs.Bounded as change
use Rattle.change_machine.specs.Spares.{Spares}
use Rattle.change_machine.specs.declared.change.End.TheVariants.{Won, Lost, Full}
use Rattle.op_machine.specs.machine.Outcomes.{Outcome, Begun, Epoch, Entered, Read, Written, Changed}
use Rattle.op_machine.specs.machine.Shows.{recall_last}
use Rattle.op_machine.specs.machine.States.{State}
use Rattle.op_machine.specs.machine.States as at
use Rattle.op_parts.specs.declared.then.Then.TheVariants.{After, Reply}
use Rattle.structure_changes.specs.declared.after.After.TheVariants.{Round, Limbo, Errand}

-- how many steps a change takes at most
abbrev pub few_changes : Limits → ℕ
few_changes limits = change.few_steps limits

-- how many steps a round takes at most, with the change that it ends with, and the last step
abbrev pub one_round : Limits → ℕ
one_round limits = few_reads limits + few_changes limits + 1

-- how many steps a removal that a round reads keeps: for the reads of the round to its left, and for a round after that
abbrev pub left_round : Limits → ℕ
left_round limits = few_reads limits + one_round limits

-- how many steps an operation takes at most from a state on, with the one that it has asked for, but for those of its errands
abbrev pub left_at : Limits → Recalled → Spares → State → ℕ
left_at limits r spares at.Begun = one_round limits + 3
left_at limits r spares at.Epoch = one_round limits + 2
left_at limits r spares (at.Enter epoch) = one_round limits + 1
left_at limits r spares (at.Read round) = read.read_round_left (left_round limits) (one_round limits) r round + 1
left_at limits r spares (at.Write round) = write.write_round_left (left_round limits) (one_round limits) r round + few_changes limits + 1
left_at limits r spares (at.Change now then) = change.steps_left (one_round limits) now spares + 1
left_at limits r spares (at.Leave reply lacks) = 1

-- each errand takes a round
abbrev pub with_errands : Limits → List (List ℕ) → ℕ → ℕ
with_errands limits errands left = left + one_round limits * length errands

-- how many steps are to be left for what an outcome faces
abbrev pub left_for : Limits → Outcome → ℕ
left_for limits Begun = one_round limits + 2
left_for limits (Epoch epoch) = one_round limits + 1
left_for limits Entered = one_round limits
left_for limits (Read read_end.Again) = one_round limits
left_for limits (Read (read_end.Removed page)) = left_round limits + 1
left_for limits (Read (read_end.Leaf leaf)) = 1
left_for limits (Read (read_end.Beside left removed)) = 1
left_for limits (Written write_end.Again) = one_round limits
left_for limits (Written (write_end.Removed page)) = left_round limits + few_changes limits + 1
left_for limits (Written write_end.Done) = one_round limits
left_for limits (Written end) = few_changes limits + 1
left_for limits (Changed Won (Reply reply)) = 1
left_for limits (Changed Won (After Round)) = one_round limits
left_for limits (Changed Won (After (Limbo unlinked))) = one_round limits
left_for limits (Changed Won (After (Errand key))) = one_round limits + one_round limits
left_for limits (Changed Lost then) = one_round limits
left_for limits (Changed (Full kind) then) = 1

-- One step fewer is left, or a cause paid for more; before the first step there is none.
abbrev pub IsSpentLast : Limits → Recalled → Option (StepOf Record) → Answer Record → ℕ → ℕ → Type 0
IsSpentLast limits r None told left rest = rest < left
IsSpentLast limits r (Some asked) told left rest = IsStepSpent limits r asked told left rest

-- what an answer leaves
abbrev pub LeavesFor : Limits → Recalled → Option (StepOf Record) → Answer Record → ℕ → State → Spares → Option Outcome → Type 0
LeavesFor limits r last told left new has None = IsSpentLast limits r last told left (left_at limits (recall_last r last told) has new)
LeavesFor limits r last told left new has (Some outcome) = IsSpentLast limits r last told left (left_for limits outcome)
