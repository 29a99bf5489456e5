-- Calls as operations of a run, one after another.
use Rattle.std.specs.Prelude.{◌≡◌, ◌≤◌, ℕ, suc, List, [], ◌∷◌, Option, Some, None, slice_get, ⊤}
use Rattle.bw_model.specs.declared.command.Command.{Command}
use Rattle.bw_model.specs.declared.command.Reply.{Reply}
use Rattle.traces.specs.declared.trace.Entry.{Entry}
use Rattle.running_tree.specs.Calls.{calls_of}
use Rattle.linearization.specs.Operations.{Finishes, IsOperation, Operation}

-- the actor's operation that begins at this place of the run
abbrev pub operation_at : ℕ → ℕ → Command → Operation
operation_at actor start command = record { start = start; actor = actor; command = command }

-- The actor has begun an operation with the command, no earlier than at this place.
pub record HasBegunFrom (run : List Entry) (actor early : ℕ) (command : Command) : Type 0 where
  pub start : ℕ
  pub late : early ≤ start
  pub is : IsOperation run (operation_at actor start command)

-- And step `done` of the run has ended it, with the reply.
pub record IsEnded (run : List Entry) (actor early : ℕ) (command : Command) (given : Reply) (done : ℕ) : Type 0 where
  pub begun : HasBegunFrom run actor early command
  pub ends : Finishes run (operation_at actor begun.start command) done given

-- The calls are operations of the actor in this order. Each begins after the one before it has ended with its reply, the first one no earlier
-- than at this place; the last one may be unfinished, and has no reply then.
abbrev pub AreInOrder : List Entry → ℕ → ℕ → List (Command × Option Reply) → Type 0
AreInOrder run actor early [] = ⊤
AreInOrder run actor early ((command, Some given) ∷ calls) = (done : ℕ) × IsEnded run actor early command given done × AreInOrder run actor (suc done) calls
AreInOrder run actor early ((command, None) ∷ calls) = HasBegunFrom run actor early command × (calls ≡ [])

-- One of the actor's calls has the command.
abbrev pub IsCall : List Entry → ℕ → Command → Type 0
IsCall run actor command = (place : ℕ) × (reply : Option Reply) × (slice_get (calls_of actor run) place ≡ Some (command, reply))
