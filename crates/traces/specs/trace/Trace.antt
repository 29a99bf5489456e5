-- A trace is a list of entries, oldest first; steps are numbered by their places in it.
use Rattle.std.specs.Prelude.{◌≡◌, ℕ, List, Option, None, Some, slice_get, take}
use Rattle.std.specs.List.{fold}
use Rattle.bw_model.specs.declared.command.Command.{Command}
use Rattle.bw_model.specs.declared.command.Reply.{Reply}
use Rattle.tree_limits.specs.declared.limits.Limits.{Limits}
use Rattle.bw_model.specs.declared.step.Step.{Step as StepOf}
use Rattle.bw_model.specs.declared.step.Answer.{Answer}
use Rattle.deltas.specs.declared.record.Record.{Record}
use Rattle.deltas.specs.Memory.{Memory, opening, replaced_at}
use Rattle.traces.specs.declared.trace.Entry.{Entry}
use Rattle.traces.specs.declared.trace.Entry.TheVariants.{Begin, Step}
use Rattle.traces.specs.declared.trace.Turn.{Turn}
use Rattle.traces.specs.declared.trace.Turn.TheVariants as turn
use Rattle.traces.specs.trace.Steps.{memory_after}

-- the turn that an entry belongs to
abbrev pub turn_of : Entry → Turn
turn_of (Begin actor command) = turn.Begin actor command
turn_of (Step actor step answer reply) = turn.Step actor

abbrev pub memory_after_entry : Memory → Entry → Memory
memory_after_entry memory (Begin actor command) = memory
memory_after_entry memory (Step actor step answer reply) = memory_after actor step memory

-- the memory after all entries
abbrev pub memory_of : Limits → List Entry → Memory
memory_of limits entries = fold memory_after_entry (opening limits) entries

-- the memory before step n
abbrev pub memory_at : Limits → List Entry → ℕ → Memory
memory_at limits entries n = memory_of limits (take n entries)

abbrev pub commands_after : (ℕ → Option Command) → Entry → ℕ → Option Command
commands_after commands (Begin actor command) = replaced_at actor (Some command) commands
commands_after commands (Step actor step answer None) = commands
commands_after commands (Step actor step answer (Some reply)) = replaced_at actor None commands

-- the command of an actor's unfinished operation, if it has one
abbrev pub command_of : List Entry → ℕ → Option Command
command_of entries = fold commands_after (λ actor. None) entries

-- Entry n is the actor's step with this answer.
abbrev pub TakesStep : List Entry → ℕ → ℕ → StepOf Record → Answer Record → Type 0
TakesStep entries n actor step answer = (reply : Option Reply) × (slice_get entries n ≡ Some (Step actor step answer reply))

-- P holds at step n, of the memory before it and of its entry.
pub record Happens (limits : Limits) (entries : List Entry) (n : ℕ) (P : Memory → Entry → Type 0) : Type 0 where
  pub entry : Entry
  pub at : slice_get entries n ≡ Some entry
  pub holds : P (memory_at limits entries n) entry

-- The entry is the actor's step with this answer.
abbrev pub IsStep : Entry → ℕ → StepOf Record → Answer Record → Type 0
IsStep entry actor step answer = (reply : Option Reply) × (entry ≡ Step actor step answer reply)
