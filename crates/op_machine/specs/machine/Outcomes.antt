-- What an operation faces where it goes from one state to another.
use Rattle.std.specs.Prelude.{◌≡◌, ◌≢◌, ◌<◌, ◌≤◌, ◌||◌, ℕ, List, [], length, Bool, Option, None, Some, IfSome, IsSome, IsTrue, ⊤, true, false}
use Rattle.bw_model.specs.declared.command.Reply.{Reply as ReplyOf}
use Rattle.bw_model.specs.declared.command.Reply.TheVariants as reply
use Rattle.bw_model.specs.declared.step.Step.{Step as StepOf}
use Rattle.bw_model.specs.declared.step.Step.TheVariants as step
use Rattle.bw_model.specs.declared.step.Answer.{Answer}
use Rattle.deltas.specs.declared.record.Record.{Record}
use Rattle.traces.specs.chain.Chains.{IsChainFrom, covers, level_in}
use Rattle.traces.specs.discipline.Discipline.{MayReply, WasStanding}
use Rattle.traces.specs.discipline.Knowledge.{Knowledge, Limbos, after_reply, learn}
use Rattle.tree_limits.specs.declared.limits.Limits.{Limits}
use Rattle.traces.specs.discipline.Recalled.{Recalled}
use Rattle.round_model.specs.ReadRounds as read
use Rattle.round_model.specs.Versions.{IsAlive}
use Rattle.round_model.specs.WriteRounds as write
use Rattle.round_model.specs.ReadEnds.{ReadEnd}
use Rattle.round_model.specs.Courses.{Seek}
use Rattle.round_model.specs.WriteEnds.{WriteEnd}
use Rattle.round_model.specs.WriteEnds as write_end
use Rattle.change_machine.specs.declared.change.End.{End}
use Rattle.change_machine.specs.declared.change.End.TheVariants.{Won, Lost, Full}
use Rattle.change_machine.specs.Spares.{Spares}
use Rattle.change_machine.specs.Taking.{AllFull}
use Rattle.change_machine.specs.declared.taking.Kind.{Kind}
use Rattle.structure_changes.specs.Sizes.{HasFewItems}
use Rattle.structure_changes.specs.Versions.{Version}
use Rattle.bw_model.specs.Replies.{command_key, is_writer}
use Rattle.op_machine.specs.machine.Errands.{due_of, splits_of, way_key}
use Rattle.op_parts.specs.Hands.{Unlinks}
use Rattle.op_machine.specs.machine.Shows.{FitsLast, IsRoundOf, ShowsState, learn_last, recall_last, wanted_at}
use Rattle.op_machine.specs.machine.Tasks.{IsBetweenChanges, IsAtRest, Seeks, Task, Waits}
use Rattle.op_machine.specs.machine.States.{State, Change, Leave}
use Rattle.op_machine.specs.machine.States as at
use Rattle.op_parts.specs.declared.then.Then.{Then}
use Rattle.op_parts.specs.declared.then.Then.TheVariants.{After, Reply}

-- what an operation has come to, where it goes from one state to another: it begins, has read the epoch, has entered, or
-- a round or a change has ended
pub data Outcome : Type 0 where
  Begun : Outcome
  Epoch : (epoch : ℕ) → Outcome
  Entered : Outcome
  Read : (end : ReadEnd) → Outcome
  Written : (end : WriteEnd) → Outcome
  Changed : (end : End) (then : Then) → Outcome

-- A reader's round has ended.
pub record FacesRead (task : Task) (spares : Spares) (k : Knowledge) (r : Recalled) (end : ReadEnd) : Type 0 where
  pub seeks : Seeks task spares k
  pub reader : is_writer task.command ≡ false
  pub round : read.ReadRound
  pub limits : round.limits ≡ task.limits
  pub key : round.key ≡ way_key [] task.command
  pub ends : read.EndsRead round k r end

-- A reader has read the chain of a leaf that has its key and stood.
pub record StandsForReader (task : Task) (spares : Spares) (k : Knowledge) (head : ℕ) (leaf : List Record) : Type 0 where
  pub seeks : Seeks task spares k
  pub reader : is_writer task.command ≡ false
  pub read : IsChainFrom k.read.seen head leaf
  pub level : level_in leaf ≡ 0
  pub covered : IsTrue (covers leaf (command_key task.command))
  pub standing : WasStanding k head leaf

-- A round that ends at the leaf of a key has gone to that leaf.
abbrev pub HasSought : write.WriteRound → WriteEnd → Type 0
HasSought round (write_end.Leaf parent leaf) = round.goal ≡ Seek
HasSought round end = ⊤

-- A writer's round has ended.
pub record FacesWritten (task : Task) (spares : Spares) (k : Knowledge) (r : Recalled) (end : WriteEnd) : Type 0 where
  pub seeks : Seeks task spares k
  pub writer : is_writer task.command ≡ true
  pub round : write.WriteRound
  pub round_of : IsRoundOf task round
  pub sought : HasSought round end
  pub ends : write.EndsWrite round k r end

-- A writer is at the leaf that its round looked for, where nothing else is due. Where its round splits pages, the leaf has few items.
pub record IsAtLeaf (task : Task) (spares : Spares) (k : Knowledge) (r : Recalled) (leaf : Version) : Type 0 where
  pub seeks : Seeks task spares k
  pub writer : is_writer task.command ≡ true
  pub page : IsAlive task.limits k r leaf
  pub level : level_in leaf.chain ≡ 0
  pub covered : IsTrue (covers leaf.chain (way_key task.errands task.command))
  pub short : length leaf.chain ≤ 8
  pub early : length leaf.chain ≤ due_of task.limits task.errands task.command
  pub few : splits_of task.limits task.errands task.command ≡ true → HasFewItems leaf.chain

-- A writer is at its leaf, with the page above it, where one was read before it; where its round splits pages, that one has its term.
pub record IsAtLeafBelow (task : Task) (spares : Spares) (k : Knowledge) (r : Recalled) (parent : Option Version) (leaf : Version) : Type 0 where
  pub at : IsAtLeaf task spares k r leaf
  pub above : IfSome parent (write.IsUpper task.limits k r leaf)
  pub termed : splits_of task.limits task.errands task.command ≡ true → write.IsTermed leaf parent

-- A change has ended: an update was linked, and justifies the reply, which isn't Full; or no update was linked, and, where it is full,
-- nothing of the kind is free.
abbrev pub FacesChanged : Task → Spares → Knowledge → End → Then → Type 0
FacesChanged task spares k Won (Reply answered) = IsBetweenChanges task spares k × MayReply task.limits task.actor k answered × (answered ≢ reply.Full)
FacesChanged task spares k Won (After after) = Seeks task spares k × (is_writer task.command ≡ true)
FacesChanged task spares k Lost then = Seeks task spares k × (is_writer task.command ≡ true)
FacesChanged task spares k (Full kind) then = Seeks task spares k × (is_writer task.command ≡ true) × AllFull task.limits k.asked kind

abbrev pub Faces : Task → Spares → Knowledge → Recalled → Outcome → Type 0
Faces task spares k r Begun = Waits task spares k
Faces task spares k r (Epoch epoch) = Waits task spares k × (0 < epoch) × (k.limbo.epoch ≡ Some epoch)
Faces task spares k r Entered = Seeks task spares k
Faces task spares k r (Read end) = FacesRead task spares k r end
Faces task spares k r (Written end) = FacesWritten task spares k r end
Faces task spares k r (Changed end then) = FacesChanged task spares k end then

-- Something is known that the state shows, and the answer fits it.
pub record IsToldAt (state : State) (spares : Spares) (told : Answer Record) : Type 0 where
  pub task : Task
  pub k : Knowledge
  pub r : Recalled
  pub stands : ShowsState task spares k r state
  pub fits : FitsLast task.limits k (wanted_at spares state) told

-- whether the first step was asked for
abbrev pub has_begun : State → Bool
has_begun at.Begun = false
has_begun state = true

-- whether a change is under way
abbrev pub is_changing : State → Bool
is_changing (Change now then) = true
is_changing state = false

-- whether a reader's round is under way, and a writer's
abbrev pub is_reading : State → Bool
is_reading (at.Read round) = true
is_reading state = false

abbrev pub is_writing : State → Bool
is_writing (at.Write round) = true
is_writing state = false

-- whether the state has a machine of its own
abbrev pub has_machine : State → Bool
has_machine state = is_reading state || is_writing state || is_changing state

-- whether the announcement of the epoch was asked for
abbrev pub is_entering : State → Bool
is_entering (at.Enter epoch) = true
is_entering state = false

-- whether the last step was asked for
abbrev pub is_leaving : State → Bool
is_leaving (Leave reply lacks) = true
is_leaving state = false

-- the kind that ran out, where it is to leave for want of it
abbrev pub lacks_at : State → Option Kind
lacks_at (Leave reply lacks) = lacks
lacks_at state = None

-- what is known to be in limbo after a change's step
abbrev pub UnlinksAfter : Limits → Knowledge → Option (End × Then) → Limbos → Type 0
UnlinksAfter limits k None after = after ≡ k.limbo
UnlinksAfter limits k (Some ended) after = Unlinks limits k ended.0 ended.1 after

-- what the operation has come to at the end of a round, and of a change, once it has come
abbrev pub read_out : Option ReadEnd → Option Outcome
read_out None = None
read_out (Some end) = Some (Read end)

abbrev pub written_out : Option WriteEnd → Option Outcome
written_out None = None
written_out (Some end) = Some (Written end)

abbrev pub change_out : Option (End × Then) → Option Outcome
change_out None = None
change_out (Some ended) = Some (Changed ended.0 ended.1)

-- The last step was Leave, its actor may reply so with it, and rests after it.
pub record HasLeft (task : Task) (k : Knowledge) (last : Option (StepOf Record)) (told : Answer Record) (spares : Spares) (reply : ReplyOf) : Type 0 where
  pub is_last : last ≡ Some step.Leave
  pub may : MayReply task.limits task.actor k reply
  pub rests : IsAtRest task.limits spares (after_reply (learn k step.Leave told) (Some reply))

-- what comes of an answer: the same state goes on, or the operation faces what comes next
abbrev pub Comes : Task → Knowledge → Recalled → Option (StepOf Record) → Answer Record → State → Spares → Option Outcome → Type 0
Comes task k r last told new has None = ShowsState task has (learn_last k last told) (recall_last r last told) new × IsSome (wanted_at has new)
Comes task k r last told new has (Some outcome) = Faces task has (learn_last k last told) (recall_last r last told) outcome
