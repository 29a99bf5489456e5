-- Calls on a seat, as the run that it has seen tells of them.
use Rattle.std.specs.Prelude.{◌≡◌, ℕ, ◌+◌, ◌<◌, ◌≤◌, Bool, true, false, List, [], ◌∷◌, ◌++◌, Option, Some, None, IfSome, length}
use Rattle.op_machine.specs.machine.Actors.{command_left}
use Rattle.bw_model.specs.declared.command.Command.{Command}
use Rattle.bw_model.specs.declared.command.Reply.{Reply}
use Rattle.bw_model.specs.declared.step.Answer.{Answer}
use Rattle.bw_model.specs.declared.step.Answer.TheVariants as answer
use Rattle.bw_model.specs.declared.step.Step.{Step as StepOf}
use Rattle.bw_model.specs.declared.step.Step.TheVariants.{Leave}
use Rattle.deltas.specs.declared.record.Record.{Record}
use Rattle.traces.specs.declared.trace.Entry.{Entry}
use Rattle.traces.specs.declared.trace.Entry.TheVariants.{Begin, Step}
use Rattle.traces.specs.discipline.Disciplined.{Extends, own_entries}
use Rattle.traces.specs.trace.Steps.{IsAnswer}
use Rattle.traces.specs.trace.Trace.{memory_of}
use Rattle.running_tree.specs.Runs.{StartsWith}
use Rattle.running_tree.specs.Seats.{Seat, unfinished_command}
use Rattle.running_tree.specs.declared.called.Called.{Called}
use Rattle.running_tree.specs.declared.called.Called.TheVariants.{Done, Spent}

-- the calls, once the one that was made last has its reply
abbrev pub answered_last : List (Command × Option Reply) → Reply → List (Command × Option Reply)
answered_last [] reply = []
answered_last ((command, before) ∷ []) reply = (command, Some reply) ∷ []
answered_last (first ∷ second ∷ rest) reply = first ∷ answered_last (second ∷ rest) reply

abbrev pub call_after : List (Command × Option Reply) → Entry → List (Command × Option Reply)
call_after calls (Begin actor command) = calls ++ (command, None) ∷ []
call_after calls (Step actor step answer None) = calls
call_after calls (Step actor step answer (Some reply)) = answered_last calls reply

abbrev pub calls_along : List (Command × Option Reply) → List Entry → List (Command × Option Reply)
calls_along calls [] = calls
calls_along calls (entry ∷ entries) = calls_along (call_after calls entry) entries

-- the operations of an actor in a run, in order, each with its command, and with its reply once it is finished
abbrev pub calls_of : ℕ → List Entry → List (Command × Option Reply)
calls_of actor run = calls_along [] (own_entries actor run)

abbrev pub calls_in : Seat → List (Command × Option Reply)
calls_in seat = calls_of seat.actor seat.seen

-- how many entries of a seat's own it has seen
abbrev pub own_count : Seat → ℕ
own_count seat = length (own_entries seat.actor seat.seen)

-- What the seat has seen ends with its operation's last step, the Leave, which has the reply.
abbrev pub EndsWith : Seat → Reply → Type 0
EndsWith seat reply = (front : List Entry) × (seat.seen ≡ front ++ Step seat.actor Leave answer.Done (Some reply) ∷ [])

-- In this run the seat's actor has begun an operation with the command, after a run that goes on from what the seat had seen by steps of others alone.
pub record BeginsIn (old : Seat) (command : Command) (seen : List Entry) : Type 0 where
  pub before : List Entry
  pub extends : Extends old.actor old.seen before
  pub after : List Entry
  pub is : seen ≡ before ++ Begin old.actor command ∷ after

-- A call that is done, after at most so many own steps beside the begin: what the seat has seen goes on from what it had seen and
-- ends with this operation's Leave. The calls are those before, and then this one, with the reply; none is unfinished.
pub record IsDone (old : Seat) (command : Command) (budget : ℕ) (reply : Reply) (new : Seat) : Type 0 where
  pub grows : StartsWith new.seen old.seen
  pub begins : BeginsIn old command new.seen
  pub ends : EndsWith new reply
  pub steps : own_count new ≤ own_count old + (1 + budget)
  pub calls : calls_in new ≡ calls_in old ++ (command, Some reply) ∷ []
  pub idle : unfinished_command new ≡ None

-- A call that is spent: it has taken exactly so many own steps, beside the begin, and is the last call, without a reply. Its
-- operation is unfinished.
pub record IsSpent (old : Seat) (command : Command) (budget : ℕ) (new : Seat) : Type 0 where
  pub grows : StartsWith new.seen old.seen
  pub begins : BeginsIn old command new.seen
  pub steps : own_count new ≡ own_count old + (1 + budget)
  pub calls : calls_in new ≡ calls_in old ++ (command, None) ∷ []
  pub busy : unfinished_command new ≡ Some command

abbrev pub IsCalled : Seat → Command → ℕ → Called → Seat → Type 0
IsCalled old command budget (Done reply) new = IsDone old command budget reply new
IsCalled old command budget Spent new = IsSpent old command budget new

-- what became of a call that is done or not, with the reply in its place
abbrev pub called_if : Bool → Reply → Called
called_if true reply = Done reply
called_if false reply = Spent

-- An operation that went on is done, after one own step at least, and at most so many: the call that was made last has the reply.
pub record IsFinished (old : Seat) (budget : ℕ) (reply : Reply) (new : Seat) : Type 0 where
  pub grows : StartsWith new.seen old.seen
  pub ends : EndsWith new reply
  pub some : own_count old < own_count new
  pub steps : own_count new ≤ own_count old + budget
  pub calls : calls_in new ≡ answered_last (calls_in old) reply
  pub idle : unfinished_command new ≡ None

-- One that went on is spent again, after exactly so many: the same operation is unfinished.
pub record IsStill (old : Seat) (budget : ℕ) (new : Seat) : Type 0 where
  pub grows : StartsWith new.seen old.seen
  pub steps : own_count new ≡ own_count old + budget
  pub calls : calls_in new ≡ calls_in old
  pub busy : unfinished_command new ≡ unfinished_command old

abbrev pub IsResumed : Seat → ℕ → Called → Seat → Type 0
IsResumed old budget (Done reply) new = IsFinished old budget reply new
IsResumed old budget Spent new = IsStill old budget new

-- The seat's operation began, with its first step, after a run that goes on from what was seen by steps of others alone.
pub record HasBegun (old : Seat) (asked : Command) (new : Seat) : Type 0 where
  pub run : List Entry
  pub extends : Extends old.actor old.seen run
  pub step : StepOf Record
  pub told : Answer Record
  pub answered : IsAnswer (memory_of old.limits run) step told
  pub grown : new.seen ≡ (run ++ Begin old.actor asked ∷ []) ++ Step old.actor step told None ∷ []
  pub command : unfinished_command new ≡ Some asked

-- The seat's actor took one step after such a run, and ended its operation with it, or not.
pub record Advances (old : Seat) (reply : Option Reply) (new : Seat) : Type 0 where
  pub run : List Entry
  pub extends : Extends old.actor old.seen run
  pub step : StepOf Record
  pub told : Answer Record
  pub answered : IsAnswer (memory_of old.limits run) step told
  pub grown : new.seen ≡ run ++ Step old.actor step told reply ∷ []
  pub last : IfSome reply (λ given. (step ≡ Leave) × (told ≡ answer.Done))
  pub command : unfinished_command new ≡ command_left reply (unfinished_command old)
