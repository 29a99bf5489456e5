-- What an actor keeps, and what an answer makes of it.
use Rattle.std.specs.Prelude.{◌≡◌, ◌≤◌, ◌*◌, ℕ, List, [], Option, Some, None}
use Rattle.bw_model.specs.declared.command.Command.{Command}
use Rattle.bw_model.specs.declared.command.Reply.{Reply}
use Rattle.tree_limits.specs.declared.limits.Limits.{Limits}
use Rattle.bw_model.specs.declared.step.Answer.{Answer}
use Rattle.bw_model.specs.declared.step.Step.{Step as StepOf}
use Rattle.deltas.specs.declared.record.Record.{Record}
use Rattle.traces.specs.discipline.Discipline.{IsAllowed}
use Rattle.traces.specs.discipline.Fitting.{Fits}
use Rattle.traces.specs.discipline.Knowledge.{Knowledge, learn, after_reply}
use Rattle.traces.specs.discipline.Recalled.{Recalled, cause_worth, recall}
use Rattle.round_model.specs.Machines.{AreThere}
use Rattle.change_machine.specs.declared.taking.Kind.{Kind}
use Rattle.linearization.specs.Halves.{IsHalved}
use Rattle.linearization.specs.Readers.{IsOfUse}
use Rattle.op_parts.specs.Hands.{Hand, empty_hand}
use Rattle.op_machine.specs.machine.Lacks.{HasLack}
use Rattle.op_machine.specs.machine.Ops.{Goes, IsAtRestWith}
use Rattle.op_machine.specs.machine.UnderWay.{UnderWay}
use Rattle.op_machine.specs.machine.UnderWay.{GoesLeftAt, IsSpentBy, StepsAt, steps_due}

-- what an actor keeps between operations, the operation that it is at, and what ran out for the last one, where its reply was Full
pub record Actor : Type 0 where
  pub hand : Hand
  pub running : Option UnderWay
  pub lacks : Option Kind

abbrev pub idle_actor : Limits → Actor
idle_actor limits = record { hand = empty_hand limits; running = None; lacks = None }

-- it is at an operation
abbrev pub at_work : Hand → UnderWay → Option Kind → Actor
at_work hand running lacks = record { hand = hand; running = Some running; lacks = lacks }

-- An operation that is under way, with the step that it wants, which its actor may take by what it knows.
pub record IsRunning (limits : Limits) (actor : ℕ) (k : Knowledge) (r : Recalled) (hand : Hand) (running : UnderWay) : Type 0 where
  pub own_limits : running.op.task.limits ≡ limits
  pub own_actor : running.op.task.actor ≡ actor
  pub goes : Goes k r running.op hand running.wanted

-- An actor without an operation rests.
abbrev pub IsActorWith : Limits → ℕ → Knowledge → Recalled → Hand → Option UnderWay → Type 0
IsActorWith limits actor k r hand None = IsAtRestWith limits actor hand k
IsActorWith limits actor k r hand (Some running) = IsRunning limits actor k r hand running

-- What the actor keeps shows what it knows and recalls. What its entries show as taken and not linked, rows and pages, is
-- exactly its spares, and what they show as taken out of the tree and not freed is exactly its limbo.
abbrev pub IsActor : Limits → ℕ → Knowledge → Recalled → Actor → Type 0
IsActor limits actor k r at = IsActorWith limits actor k r at.hand at.running

-- what the actor knows after its step
abbrev pub knows_then : Knowledge → StepOf Record → Answer Record → Option Reply → Knowledge
knows_then k step answer reply = after_reply (learn k step answer) reply

abbrev pub command_at : Option UnderWay → Option Command
command_at None = None
command_at (Some running) = Some running.op.task.command

-- the command of its operation, if it has one
abbrev pub running_command : Actor → Option Command
running_command at = command_at at.running

abbrev pub errands_at : Option UnderWay → List (List ℕ)
errands_at None = []
errands_at (Some running) = running.op.task.errands

-- the separators that its operation is still to visit, the newest last
abbrev pub errands_of : Actor → List (List ℕ)
errands_of at = errands_at at.running

-- the step that its operation wants, if it has one
abbrev pub wanted_by : Option UnderWay → Option (StepOf Record)
wanted_by None = None
wanted_by (Some running) = Some running.wanted

-- the command that is left after a step with the reply
abbrev pub command_left : Option Reply → Option Command → Option Command
command_left None command = command
command_left (Some reply) command = None

-- An operation is under way that shows what is known, and the answer to the step that it wants fits that.
pub record IsGoing (limits : Limits) (actor : ℕ) (k : Knowledge) (r : Recalled) (at : Actor) (answer : Answer Record) : Type 0 where
  pub running : UnderWay
  pub is : at.running ≡ Some running
  pub shows : IsRunning limits actor k r at.hand running
  pub fits : Fits limits k running.wanted answer

-- Something is known that the actor shows.
abbrev pub IsActorShown : Actor → Type 0
IsActorShown at = (limits : Limits) × (actor : ℕ) × (k : Knowledge) × (r : Recalled) × IsActor limits actor k r at

-- Something is known that it shows, and that the answer fits.
pub record IsToldActor (at : Actor) (answer : Answer Record) : Type 0 where
  pub limits : Limits
  pub actor : ℕ
  pub k : Knowledge
  pub r : Recalled
  pub going : IsGoing limits actor k r at answer

-- As `IsToldActor`, and what was read then is there.
pub record IsToldActorThere (is_there : ℕ → Record → Type 0) (at : Actor) (answer : Answer Record) : Type 0 where
  pub limits : Limits
  pub actor : ℕ
  pub k : Knowledge
  pub r : Recalled
  pub going : IsGoing limits actor k r at answer
  pub there : AreThere is_there (learn k going.running.wanted answer)

-- The actor might take the step, with the reply; what it keeps then shows what it knows and recalls, and of the steps that were
-- left it has spent one, or a cause paid for more; few are left. Where the reply is Full, it tells what ran out. In a round it makes of
-- the answer what the round makes of it; where it meets a removed page, it goes to the left of that page.
pub record ActsOn (limits : Limits) (actor : ℕ) (k : Knowledge) (r : Recalled) (old : Actor) (step : StepOf Record) (answer : Answer Record) (reply : Option Reply) (new : Actor) : Type 0 where
  pub allowed : IsAllowed limits actor k step reply
  pub useful : IsOfUse k step
  pub halved : IsHalved k step
  pub shows : IsActor limits actor (knows_then k step answer reply) (recall r step answer) new
  pub spends : IsSpentBy limits r old.hand old.running step answer new.hand new.running
  pub few : steps_due (recall r step answer) new.hand new.running ≤ cause_worth limits * 10
  pub lacks : HasLack limits k reply old.lacks new.lacks
  pub steps : StepsAt old.running answer new.running
  pub left : GoesLeftAt old.running answer new.running
