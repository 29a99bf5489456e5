-- Two calls, of which one begins after the other has returned.
use Rattle.std.specs.Prelude.{◌≡◌, ◌<◌, ◌≤◌, ◌⊎◌, ℕ, List, ◌∷◌, [], Option, Some, IsTrue, length}
use Rattle.bw_model.specs.declared.command.Command.{Command}
use Rattle.bw_model.specs.declared.command.Reply.{Reply}
use Rattle.traces.specs.declared.trace.Entry.{Entry}
use Rattle.linearization.specs.Operations.{Finishes, IsOperation, IsOwnStep, Operation}
use Rattle.running_tree.specs.Calls.{BeginsIn}
use Rattle.running_tree.specs.Seats.{Seat}
use Rattle.map_laws.specs.InOrder.{operation_at}
use Rattle.map_laws.specs.OwnKeys.{AreOwnReplies, may_change}

-- the operation that a call on the seat has begun, in each run that goes on from what it has left
abbrev pub call_operation : (old : Seat) (command : Command) (seen : List Entry) → BeginsIn old command seen → Operation
call_operation old command seen begins = operation_at old.actor (length begins.before) command

-- In the run the first operation has ended with this reply, before the second one begins. So each own step of the first one, and the one at which it
-- took effect, comes before each own step of the second one.
pub record AreApart (run : List Entry) (first second : Operation) (given : Reply) : Type 0 where
  pub done : ℕ
  pub opens : IsOperation run first
  pub ends : Finishes run first done given
  pub begins : IsOperation run second
  pub apart : done < second.start
  pub steps : (m n : ℕ) → IsOwnStep run first m → IsOwnStep run second n → m < n

-- From the first operation's begin on, each step of an operation that may change the key's value is the one's or the other's.
pub record ChangedByTwo (run : List Entry) (key : List ℕ) (first second : Operation) : Type 0 where
  pub each : (operation : Operation) (n : ℕ) → first.start ≤ n → IsOperation run operation → IsOwnStep run operation n → IsTrue (may_change key operation.command)
      → (operation ≡ first) ⊎ (operation ≡ second)

-- A map with this one key, which has some value before, gives the two replies, the first one's and then the second one's, where they tell of the key.
abbrev pub ReplyInOrder : List ℕ → Command → Reply → Command → Reply → Type 0
ReplyInOrder key command given asked told = (before : Option (List ℕ)) × AreOwnReplies key before ((command, Some given) ∷ (asked, Some told) ∷ [])
