-- What a run keeps true of its writers: each has met what is gone seldom, and the changes of the tree pay for what it may meet yet.
use Rattle.std.specs.Prelude.{◌≡◌, ◌<◌, ◌≤◌, ◌+◌, ◌*◌, ◌++◌, ℕ, List, [], ◌∷◌, length, drop, take, Option, None, Some, true, false, ⊤}
use Rattle.std.specs.List.{All, count_by}
use Rattle.std.specs.List.Sorted.{IsStrictlyIncreasing}
use Rattle.tree_limits.specs.declared.limits.Limits.{Limits}
use Rattle.bw_model.specs.Replies.{is_writer}
use Rattle.bw_model.specs.declared.command.Command.{Command}
use Rattle.bw_model.specs.declared.command.Reply.{Reply}
use Rattle.bw_model.specs.declared.step.Answer.{Answer}
use Rattle.bw_model.specs.declared.step.Step.{Step as StepOf}
use Rattle.deltas.specs.declared.record.Record.{Record}
use Rattle.traces.specs.declared.trace.Entry.{Entry}
use Rattle.traces.specs.declared.trace.Entry.TheVariants.{Begin, Step}
use Rattle.traces.specs.discipline.Disciplined.{Extends}
use Rattle.traces.specs.discipline.Knowledge.{Knowledge, knows}
use Rattle.traces.specs.discipline.Recalled.{Recalled, recalls}
use Rattle.traces.specs.trace.Trace.{Happens}
use Rattle.structure_changes.specs.Plans.{head_of, slot_of}
use Rattle.change_machine.specs.Changes.{has_decided}
use Rattle.op_machine.specs.machine.Actors.{Actor, ActsOn, IsActor, command_left, running_command, wanted_by}
use Rattle.op_machine.specs.machine.States.{State, Begun, Epoch, Enter, Read, Write, Change, Leave}
use Rattle.op_machine.specs.machine.UnderWay.{UnderWay}
use Rattle.linearization.specs.Direct.{IsDirect}
use Rattle.linearization.specs.Progress.{ChangesTree}
use Rattle.tree_law.specs.Direct.{IsLast}
use Rattle.tree_law.specs.State.{IsState, operation_from}
use Rattle.progress.specs.Writers.{MeetsSeldom}
use Rattle.progress.specs.WritersAmong.{few_meets, AreLawfulWritings, AtChange, InRound, WriterMoment, WriterState, changes_among, meets_at, own_meets}

-- The changes of the tree from entry m on pay for what the actor has met since that was gone, and for this many times more.
pub record PaysMeets (limits : Limits) (entries : List Entry) (actor m left : ℕ) : Type 0 where
  pub changes : List ℕ
  pub increasing : IsStrictlyIncreasing changes
  pub each : All (λ place. (m ≤ place) × (place < length entries) × Happens limits entries place ChangesTree) changes
  pub paid : count_by (meets_at actor) (drop m entries) + left ≤ (1 + length changes) * few_meets

-- Among whatever lawful moments follow the writer meets what is gone at most so often, and as many times more for each change of the tree as in one memory.
abbrev pub MeetsFewer : Limits → ℕ → List Entry → WriterState → ℕ → Type 0
MeetsFewer limits actor entries state left = (moments : List WriterMoment) → AreLawfulWritings limits actor entries state moments
    → own_meets actor moments ≤ left + changes_among limits entries moments * few_meets

-- They pay for what a writer may meet yet.
pub record PaysForWriter (limits : Limits) (entries : List Entry) (actor : ℕ) (state : WriterState) (m : ℕ) : Type 0 where
  pub left : ℕ
  pub few : MeetsFewer limits actor entries state left
  pub pays : PaysMeets limits entries actor m left

-- by where a writer stands: before its first round, in one, at a change, or at its leave
abbrev pub MeetsAt : Limits → List Entry → ℕ → ℕ → State → Type 0
MeetsAt limits entries actor m Begun = PaysMeets limits entries actor m few_meets
MeetsAt limits entries actor m Epoch = PaysMeets limits entries actor m few_meets
MeetsAt limits entries actor m (Enter epoch) = PaysMeets limits entries actor m few_meets
MeetsAt limits entries actor m (Read round) = ⊥
MeetsAt limits entries actor m (Write round) = PaysForWriter limits entries actor (InRound round) m
MeetsAt limits entries actor m (Change now after) = PaysForWriter limits entries actor (AtChange (slot_of now.plan) (head_of now.plan) (has_decided now.state)) m
MeetsAt limits entries actor m (Leave reply lacks) = PaysMeets limits entries actor m 0

-- Where the actor's operation is a writer, the changes of the tree from each entry on that came after its begin pay for what it meets.
abbrev pub PaysWriter : Limits → List Entry → ℕ → Option UnderWay → Type 0
PaysWriter limits entries actor None = ⊤
PaysWriter limits entries actor (Some running) = (start m : ℕ) (command : Command) → IsLast entries (operation_from start actor command) → is_writer command ≡ true → start < m → m ≤ length entries
    → MeetsAt limits entries actor m running.op.state

-- Each writer has met what is gone seldom; and with each entry the run was a state, and direct.
pub record IsWritersState (limits : Limits) (entries : List Entry) : Type 0 where
  pub seldom : MeetsSeldom limits entries
  pub states : (n : ℕ) → IsState limits (take n entries)
  pub directs : (n : ℕ) → IsDirect limits (take n entries)

-- A begin keeps it,
abbrev pub BeginsKeepWriters : Type 0
BeginsKeepWriters = (limits : Limits) (entries : List Entry) (actor : ℕ) (command : Command) → IsWritersState limits entries
    → IsState limits (entries ++ Begin actor command ∷ []) → IsDirect limits (entries ++ Begin actor command ∷ []) → IsWritersState limits (entries ++ Begin actor command ∷ [])

-- and the writer that begins is paid for, whose actor was outside.
abbrev pub BegunWritersArePaid : Type 0
BegunWritersArePaid = (limits : Limits) (entries : List Entry) (actor : ℕ) (command : Command) (k : Knowledge) (r : Recalled) (new : Actor) → IsActor limits actor k r new → k.inside ≡ false
    → running_command new ≡ Some command → PaysWriter limits (entries ++ Begin actor command ∷ []) actor new.running

-- A step of a writer that is paid for keeps it, whatever the answer,
abbrev pub StepsKeepWriters : Type 0
StepsKeepWriters = (limits : Limits) (entries : List Entry) (actor : ℕ) (step : StepOf Record) (answer : Answer Record) (reply : Option Reply) (old : Actor) → IsWritersState limits entries
    → PaysWriter limits entries actor old.running → wanted_by old.running ≡ Some step → IsState limits (entries ++ Step actor step answer reply ∷ [])
    → IsDirect limits (entries ++ Step actor step answer reply ∷ []) → IsWritersState limits (entries ++ Step actor step answer reply ∷ [])

-- and the writer is paid for still, once it has made of the answer what it makes of it.
abbrev pub WriterStepsArePaid : Type 0
WriterStepsArePaid = (limits : Limits) (entries : List Entry) (actor : ℕ) (step : StepOf Record) (answer : Answer Record) (reply : Option Reply) (old new : Actor) → IsState limits entries
    → IsActor limits actor (knows entries actor) (recalls entries actor) old → PaysWriter limits entries actor old.running → wanted_by old.running ≡ Some step
    → IsState limits (entries ++ Step actor step answer reply ∷ []) → IsDirect limits (entries ++ Step actor step answer reply ∷ [])
    → ActsOn limits actor (knows entries actor) (recalls entries actor) old step answer reply new → running_command new ≡ command_left reply (running_command old)
    → PaysWriter limits (entries ++ Step actor step answer reply ∷ []) actor new.running

-- So it is whatever others do.
abbrev pub WritersStayPaid : Type 0
WritersStayPaid = (limits : Limits) (actor : ℕ) (seen run : List Entry) (at : Actor) → Extends actor seen run → IsWritersState limits run
    → IsActor limits actor (knows seen actor) (recalls seen actor) at → PaysWriter limits seen actor at.running → PaysWriter limits run actor at.running

-- What a run's writers need that goes on entry by entry.
pub record WritersGoOn : Type 0 where
  pub begins : BeginsKeepWriters
  pub begun : BegunWritersArePaid
  pub steps : StepsKeepWriters
  pub stepped : WriterStepsArePaid
  pub lasts : WritersStayPaid
