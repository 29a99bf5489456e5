-- What a run keeps true of its readers: each has taken few steps, and the changes of the tree pay for those that it has left.
use Rattle.std.specs.Prelude.{◌≡◌, ◌<◌, ◌≤◌, ◌+◌, ◌*◌, ◌++◌, ℕ, List, [], ◌∷◌, length, drop, take, Option, None, Some, false, ⊤}
use Rattle.std.specs.List.{All, count_by}
use Rattle.std.specs.List.Sorted.{IsStrictlyIncreasing}
use Rattle.tree_limits.specs.declared.limits.Limits.{Limits}
use Rattle.bw_model.specs.Replies.{is_writer}
use Rattle.bw_model.specs.declared.command.Command.{Command}
use Rattle.bw_model.specs.declared.command.Reply.{Reply}
use Rattle.bw_model.specs.declared.step.Answer.{Answer}
use Rattle.bw_model.specs.declared.step.Step.{Step as StepOf}
use Rattle.deltas.specs.declared.record.Record.{Record}
use Rattle.traces.specs.declared.trace.Entry.{Entry}
use Rattle.traces.specs.declared.trace.Entry.TheVariants.{Begin, Step}
use Rattle.traces.specs.discipline.Disciplined.{Extends}
use Rattle.traces.specs.discipline.Knowledge.{Knowledge, knows}
use Rattle.traces.specs.discipline.Recalled.{Recalled, recalls}
use Rattle.traces.specs.trace.Trace.{Happens}
use Rattle.round_model.specs.ReadRounds.{ReadRound}
use Rattle.op_machine.specs.machine.Actors.{Actor, ActsOn, IsActor, command_left, running_command, wanted_by}
use Rattle.op_machine.specs.machine.States.{State, Begun, Epoch, Enter, Read, Leave}
use Rattle.op_machine.specs.machine.Tasks.{Task}
use Rattle.op_machine.specs.machine.UnderWay.{UnderWay}
use Rattle.linearization.specs.Direct.{IsDirect, is_step_of}
use Rattle.linearization.specs.Progress.{ChangesTree}
use Rattle.linearization.specs.ReadersEnd.{ReadersEnd, one_memory}
use Rattle.tree_law.specs.Direct.{IsLast}
use Rattle.tree_law.specs.State.{IsState, operation_from}
use Rattle.progress.specs.ReadersAmong.{AreLawful, Moment, all_changes, own_steps}

-- The changes of the tree from entry m on pay for the steps that the actor has taken since, and for this many more.
pub record PaysFrom (limits : Limits) (entries : List Entry) (actor m left : ℕ) : Type 0 where
  pub changes : List ℕ
  pub increasing : IsStrictlyIncreasing changes
  pub each : All (λ place. (m ≤ place) × (place < length entries) × Happens limits entries place ChangesTree) changes
  pub paid : count_by (is_step_of actor) (drop m entries) + left ≤ one_memory limits * (length changes + 1) + 3

-- Among whatever lawful moments follow, the reader takes fewer steps than this, and as many more for each change of the tree as one memory costs.
abbrev pub TakesFewer : Limits → ℕ → Task → List Entry → ReadRound → ℕ → Type 0
TakesFewer limits actor task entries round left =
    (moments : List Moment) → AreLawful limits actor task entries round moments → own_steps actor moments < left + all_changes limits entries moments * one_memory limits

-- They pay for what a round has left, and for the leave.
pub record PaysForRound (limits : Limits) (entries : List Entry) (task : Task) (round : ReadRound) (m : ℕ) : Type 0 where
  pub left : ℕ
  pub few : TakesFewer limits task.actor task entries round left
  pub pays : PaysFrom limits entries task.actor m (left + 1)

-- by where a reader stands: before it reads the epoch, before it enters, in a round, or at its leave
abbrev pub PaysAt : Limits → List Entry → Task → ℕ → State → Type 0
PaysAt limits entries task m Begun = PaysFrom limits entries task.actor m (one_memory limits + 3)
PaysAt limits entries task m Epoch = PaysFrom limits entries task.actor m (one_memory limits + 3)
PaysAt limits entries task m (Enter epoch) = PaysFrom limits entries task.actor m (one_memory limits + 2)
PaysAt limits entries task m (Read round) = PaysForRound limits entries task round m
PaysAt limits entries task m (Leave reply lacks) = PaysFrom limits entries task.actor m 1
PaysAt limits entries task m other = ⊥

abbrev pub reader_task : Limits → ℕ → Command → Task
reader_task limits actor command = record { limits = limits; actor = actor; command = command; errands = [] }

-- Where the actor's operation is a reader, the changes of the tree from each entry on that came after its begin pay for its steps.
abbrev pub PaysReader : Limits → List Entry → ℕ → Option UnderWay → Type 0
PaysReader limits entries actor None = ⊤
PaysReader limits entries actor (Some running) = (start m : ℕ) (command : Command) → IsLast entries (operation_from start actor command) → is_writer command ≡ false → start < m → m ≤ length entries
    → PaysAt limits entries (reader_task limits actor command) m running.op.state

-- Each reader has taken few steps; and with each entry the run was a state, and direct.
pub record IsReadersState (limits : Limits) (entries : List Entry) : Type 0 where
  pub ends : ReadersEnd limits entries
  pub states : (n : ℕ) → IsState limits (take n entries)
  pub directs : (n : ℕ) → IsDirect limits (take n entries)

-- A begin keeps it,
abbrev pub BeginsKeepReaders : Type 0
BeginsKeepReaders = (limits : Limits) (entries : List Entry) (actor : ℕ) (command : Command) → IsReadersState limits entries
    → IsState limits (entries ++ Begin actor command ∷ []) → IsDirect limits (entries ++ Begin actor command ∷ []) → IsReadersState limits (entries ++ Begin actor command ∷ [])

-- and the reader that begins is paid for, whose actor was outside.
abbrev pub BegunArePaid : Type 0
BegunArePaid = (limits : Limits) (entries : List Entry) (actor : ℕ) (command : Command) (k : Knowledge) (r : Recalled) (new : Actor) → IsActor limits actor k r new → k.inside ≡ false
    → running_command new ≡ Some command → PaysReader limits (entries ++ Begin actor command ∷ []) actor new.running

-- A step of a reader that is paid for keeps it, whatever the answer,
abbrev pub StepsKeepReaders : Type 0
StepsKeepReaders = (limits : Limits) (entries : List Entry) (actor : ℕ) (step : StepOf Record) (answer : Answer Record) (reply : Option Reply) (old : Actor) → IsReadersState limits entries
    → PaysReader limits entries actor old.running → wanted_by old.running ≡ Some step → IsState limits (entries ++ Step actor step answer reply ∷ [])
    → IsDirect limits (entries ++ Step actor step answer reply ∷ []) → IsReadersState limits (entries ++ Step actor step answer reply ∷ [])

-- and the reader is paid for still, once it has made of the answer what it makes of it.
abbrev pub StepsArePaid : Type 0
StepsArePaid = (limits : Limits) (entries : List Entry) (actor : ℕ) (step : StepOf Record) (answer : Answer Record) (reply : Option Reply) (old new : Actor) → IsState limits entries
    → IsActor limits actor (knows entries actor) (recalls entries actor) old → PaysReader limits entries actor old.running → wanted_by old.running ≡ Some step
    → IsState limits (entries ++ Step actor step answer reply ∷ []) → IsDirect limits (entries ++ Step actor step answer reply ∷ [])
    → ActsOn limits actor (knows entries actor) (recalls entries actor) old step answer reply new → running_command new ≡ command_left reply (running_command old)
    → PaysReader limits (entries ++ Step actor step answer reply ∷ []) actor new.running

-- So it is whatever others do.
abbrev pub ReadersStayPaid : Type 0
ReadersStayPaid = (limits : Limits) (actor : ℕ) (seen run : List Entry) (at : Actor) → Extends actor seen run → IsReadersState limits run
    → IsActor limits actor (knows seen actor) (recalls seen actor) at → PaysReader limits seen actor at.running → PaysReader limits run actor at.running

-- What a run's readers need that goes on entry by entry.
pub record ReadersGoOn : Type 0 where
  pub begins : BeginsKeepReaders
  pub begun : BegunArePaid
  pub steps : StepsKeepReaders
  pub stepped : StepsArePaid
  pub lasts : ReadersStayPaid
