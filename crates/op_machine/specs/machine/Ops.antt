-- An operation: the step that it wants, and what its actor knows meanwhile.
use Rattle.std.specs.Prelude.{◌≡◌, ◌≢◌, ℕ, Option, Some, None, true}
use Rattle.bw_model.specs.Replies.{is_writer}
use Rattle.bw_model.specs.declared.command.Reply.{Reply}
use Rattle.tree_limits.specs.declared.limits.Limits.{Limits}
use Rattle.bw_model.specs.declared.step.Step.{Step as StepOf}
use Rattle.bw_model.specs.declared.step.Step.TheVariants as step
use Rattle.bw_model.specs.declared.step.Answer.{Answer}
use Rattle.deltas.specs.declared.record.Record.{Record}
use Rattle.traces.specs.discipline.Knowledge.{Knowledge}
use Rattle.traces.specs.discipline.Recalled.{Recalled}
use Rattle.round_model.specs.Machines.{AreThere}
use Rattle.epochs.specs.Limbo.{Limbo}
use Rattle.op_parts.specs.Hands.{Hand}
use Rattle.op_machine.specs.machine.Outcomes.{HasLeft}
use Rattle.op_machine.specs.machine.Shows.{FitsLast, MayStep, ShowsState, learn_last, recall_last, wanted_at}
use Rattle.op_machine.specs.machine.Tasks.{IsAtRest, Task}
use Rattle.op_machine.specs.machine.Wants.{Want, Step, Done}
use Rattle.op_machine.specs.machine.States.{State, Begun}
use Rattle.sweep.specs.Kept.{AreKept}
use Rattle.sweep.specs.Sweeps.{IsSoundSweep, Sweep, wanted_step, Shows as ShowsSweep}

-- what an operation was asked, the sweep that is under way, and where the operation stands after that
pub record Op : Type 0 where
  pub task : Task
  pub sweep : Option Sweep
  pub state : State

-- the step that an operation has asked for
abbrev pub asked_by : Option Sweep → Option (StepOf Record) → Option (StepOf Record)
asked_by None after = after
asked_by (Some sweep) after = Some (wanted_step sweep)

abbrev pub wanted_of : Op → Hand → Option (StepOf Record)
wanted_of op hand = asked_by op.sweep (wanted_at hand.spares op.state)

-- A writer's sweep is under way, before anything else.
pub record IsSweeping (task : Task) (state : State) (limbo : Limbo) (k : Knowledge) (sweep : Sweep) : Type 0 where
  pub first : state ≡ Begun
  pub writer : is_writer task.command ≡ true
  pub limits : sweep.limits ≡ task.limits
  pub actor : sweep.actor ≡ task.actor
  pub sound : IsSoundSweep sweep limbo
  pub shows : ShowsSweep sweep limbo k

-- The limbo list keeps what is known to be in limbo.
abbrev pub HoldsLimbo : Task → State → Limbo → Knowledge → Option Sweep → Type 0
HoldsLimbo task state limbo k None = AreKept task.limits task.actor limbo k.limbo
HoldsLimbo task state limbo k (Some sweep) = IsSweeping task state limbo k sweep

-- What an operation and its actor's hand hold is what is known.
pub record Shows (op : Op) (hand : Hand) (k : Knowledge) (r : Recalled) : Type 0 where
  pub stands : ShowsState op.task hand.spares k r op.state
  pub limbo : HoldsLimbo op.task op.state hand.limbo k op.sweep

-- between operations
pub record IsAtRestWith (limits : Limits) (actor : ℕ) (hand : Hand) (k : Knowledge) : Type 0 where
  pub spares : IsAtRest limits hand.spares k
  pub limbo : AreKept limits actor hand.limbo k.limbo

-- Something is known that the operation shows, and the answer fits it.
pub record IsToldOp (op : Op) (hand : Hand) (told : Answer Record) : Type 0 where
  pub k : Knowledge
  pub r : Recalled
  pub shows : Shows op hand k r
  pub fits : FitsLast op.task.limits k (wanted_of op hand) told

-- As `IsToldOp`, and what was read then is there.
pub record IsToldOpThere (is_there : ℕ → Record → Type 0) (op : Op) (hand : Hand) (told : Answer Record) : Type 0 where
  pub k : Knowledge
  pub r : Recalled
  pub shows : Shows op hand k r
  pub fits : FitsLast op.task.limits k (wanted_of op hand) told
  pub there : AreThere is_there (learn_last k (wanted_of op hand) told)

-- The step is wanted, the actor may take it, and the operation shows what is known.
pub record Goes (k : Knowledge) (r : Recalled) (op : Op) (hand : Hand) (asked : StepOf Record) : Type 0 where
  pub wanted : wanted_of op hand ≡ Some asked
  pub may : MayStep op.task k asked
  pub shows : Shows op hand k r

-- The operation is done with the reply, and its actor rests.
pub record IsOver (task : Task) (k : Knowledge) (last : Option (StepOf Record)) (told : Answer Record) (hand : Hand) (reply : Reply) : Type 0 where
  pub left : HasLeft task k last told hand.spares reply
  pub limbo : AreKept task.limits task.actor hand.limbo (learn_last k last told).limbo

-- It is done exactly where its leave was the step that it wanted.
abbrev pub EndsAtLeave : Op → Hand → Want → Type 0
EndsAtLeave old had (Step asked) = wanted_of old had ≢ Some step.Leave
EndsAtLeave old had (Done reply) = wanted_of old had ≡ Some step.Leave

-- what comes of an answer: the operation wants its next step, or is done
abbrev pub Answers : Knowledge → Recalled → Op → Hand → Answer Record → Op → Hand → Want → Type 0
Answers k r old had told new has (Step asked) = Goes (learn_last k (wanted_of old had) told) (recall_last r (wanted_of old had) told) new has asked
Answers k r old had told new has (Done reply) = IsOver old.task k (wanted_of old had) told has reply

-- Whatever is known that the operation showed, and that the answer fits: it goes on as its actor may.
abbrev pub Obeys : Op → Hand → Answer Record → Op → Hand → Want → Type 0
Obeys old had told new has want = (k : Knowledge) (r : Recalled) → Shows old had k r → FitsLast old.task.limits k (wanted_of old had) told → Answers k r old had told new has want
