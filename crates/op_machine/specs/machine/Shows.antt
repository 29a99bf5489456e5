-- What an operation holds is what its actor knows and recalls.
use Rattle.std.specs.Prelude.{◌≡◌, ◌<◌, [], Option, Some, None, true, false}
use Rattle.bw_model.specs.declared.step.Step.{Step as StepOf}
use Rattle.bw_model.specs.declared.step.Step.TheVariants as step
use Rattle.bw_model.specs.declared.step.Answer.{Answer}
use Rattle.bw_model.specs.declared.step.Answer.TheVariants as answer
use Rattle.tree_limits.specs.declared.limits.Limits.{Limits}
use Rattle.deltas.specs.declared.record.Record.{Record}
use Rattle.traces.specs.discipline.Discipline.{May, MayFree, MayReply}
use Rattle.traces.specs.discipline.Fitting.{Fits}
use Rattle.traces.specs.discipline.Knowledge.{Knowledge, learn}
use Rattle.traces.specs.discipline.Recalled.{Recalled, WasHead, recall}
use Rattle.traces.specs.discipline.Useful.{IsUseful}
use Rattle.linearization.specs.Halves.{IsHalved}
use Rattle.round_model.specs.ReadRounds as read
use Rattle.round_model.specs.WriteRounds as write
use Rattle.round_model.specs.Courses.{Seek}
use Rattle.change_machine.specs.Changes as change
use Rattle.structure_changes.specs.Plans.{head_of, slot_of}
use Rattle.change_machine.specs.Bounded as bound
use Rattle.change_machine.specs.Spares.{Spares}
use Rattle.traces.specs.trace.Within.{IsWithin}
use Rattle.structure_changes.specs.declared.plan.Plan.{Plan}
use Rattle.bw_model.specs.Replies.{is_writer}
use Rattle.op_machine.specs.machine.Brings.{Brings, IsReadPlan, IsUsefulPlan}
use Rattle.op_machine.specs.machine.Lacks.{TellsLack}
use Rattle.op_machine.specs.machine.Errands.{due_of, splits_of, tends_of, way_key}
use Rattle.op_machine.specs.machine.Tasks.{IsAsked, IsBetweenChanges, IsUnreadPid, Seeks, Task, Waits}
use Rattle.op_machine.specs.machine.States.{State, Begun, Epoch, Enter, Read, Write, Change, Leave}
use Rattle.op_parts.specs.declared.then.Then.{Then}

-- A reader's round is under way, for the command's key.
pub record IsInReadRound (task : Task) (spares : Spares) (k : Knowledge) (r : Recalled) (round : read.ReadRound) : Type 0 where
  pub seeks : Seeks task spares k
  pub reader : is_writer task.command ≡ false
  pub limits : round.limits ≡ task.limits
  pub key : round.key ≡ way_key [] task.command
  pub shows : read.Shows round k r

-- The round goes to a leaf for the newest errand or the command's key, or to the left of a removed page.
pub record IsRoundOf (task : Task) (round : write.WriteRound) : Type 0 where
  pub limits : round.limits ≡ task.limits
  pub some : 0 < round.due
  pub key : round.goal ≡ Seek → round.key ≡ way_key task.errands task.command
  pub due : round.goal ≡ Seek → round.due ≡ due_of task.limits task.errands task.command
  pub tends : round.goal ≡ Seek → round.tends ≡ tends_of task.errands task.command
  pub splits : round.goal ≡ Seek → round.splits ≡ splits_of task.limits task.errands task.command

-- A writer's round is under way.
pub record IsInWriteRound (task : Task) (spares : Spares) (k : Knowledge) (r : Recalled) (round : write.WriteRound) : Type 0 where
  pub seeks : Seeks task spares k
  pub writer : is_writer task.command ≡ true
  pub round_of : IsRoundOf task round
  pub shows : write.Shows round k r

-- A change is under way.
pub record IsInChange (task : Task) (spares : Spares) (k : Knowledge) (r : Recalled) (now : change.Change) (then : Then) : Type 0 where
  pub asked : IsAsked task k
  pub writer : is_writer task.command ≡ true
  pub limits : now.limits ≡ task.limits
  pub brings : Brings k task.command now.plan then
  pub useful : IsUsefulPlan k now.plan
  pub split : IsReadPlan k now.plan
  pub unread : IsUnreadPid spares k
  pub sound : change.IsSoundChange now spares
  pub made : change.IsMade now spares
  pub shows : change.Shows task.actor now spares k
  pub recalls : bound.Recalls now spares r

-- A change may begin.
pub record MayBegin (task : Task) (spares : Spares) (k : Knowledge) (r : Recalled) (plan : Plan) (then : Then) : Type 0 where
  pub seeks : Seeks task spares k
  pub writer : is_writer task.command ≡ true
  pub may : change.MayChange task.actor k plan
  pub keeps : change.KeepsSpare plan spares.pid
  pub brings : Brings k task.command plan then
  pub useful : IsUsefulPlan k plan
  pub split : IsReadPlan k plan
  pub recalled : WasHead r (slot_of plan) (head_of plan)

-- by the state of an operation
abbrev pub ShowsState : Task → Spares → Knowledge → Recalled → State → Type 0
ShowsState task spares k r Begun = Waits task spares k
ShowsState task spares k r Epoch = Waits task spares k
ShowsState task spares k r (Enter epoch) = Waits task spares k × (0 < epoch) × (k.limbo.epoch ≡ Some epoch)
ShowsState task spares k r (Read round) = IsInReadRound task spares k r round
ShowsState task spares k r (Write round) = IsInWriteRound task spares k r round
ShowsState task spares k r (Change now then) = IsInChange task spares k r now then
ShowsState task spares k r (Leave reply lacks) = IsBetweenChanges task spares k × MayReply task.limits task.actor k reply × TellsLack task.limits k reply lacks

-- the step that a state has asked for
abbrev pub wanted_at : Spares → State → Option (StepOf Record)
wanted_at spares Begun = None
wanted_at spares Epoch = Some step.Epoch
wanted_at spares (Enter epoch) = Some (step.Enter epoch)
wanted_at spares (Read round) = Some (read.wanted_step round)
wanted_at spares (Write round) = Some (write.wanted_step round)
wanted_at spares (Change now then) = Some (change.wanted_step now spares)
wanted_at spares (Leave reply lacks) = Some step.Leave

-- the answer fits the step wanted last; before the first step there is none
abbrev pub FitsLast : Limits → Knowledge → Option (StepOf Record) → Answer Record → Type 0
FitsLast limits k None told = told ≡ answer.Start
FitsLast limits k (Some asked) told = Fits limits k asked told

-- what is known and recalled once the step wanted last has its answer
abbrev pub learn_last : Knowledge → Option (StepOf Record) → Answer Record → Knowledge
learn_last k None told = k
learn_last k (Some asked) told = learn k asked told

abbrev pub recall_last : Recalled → Option (StepOf Record) → Answer Record → Recalled
recall_last r None told = r
recall_last r (Some asked) told = recall r asked told

-- The actor may take the step: it names no number that has no place, places nothing that a row can't spell, frees nothing that
-- another one may hold, puts no base over a base alone, and splits no page that has too few items.
pub record MayStep (task : Task) (k : Knowledge) (asked : StepOf Record) : Type 0 where
  pub within : IsWithin task.limits asked
  pub may : May task.actor k asked
  pub frees : MayFree task.limits task.actor k asked
  pub useful : IsUseful k asked
  pub halved : IsHalved k asked
