-- Turns of a core, as its trace shows them, and why a turn is refused.
use Rattle.std.specs.Prelude.{◌≡◌, ℕ, ◌⊎◌, List, [], ◌∷◌, ◌++◌, map, nat_lt, is_some, ◌&&◌, Bool, if◌then◌else◌, Option, None, Some}
use Rattle.tree_limits.specs.declared.limits.Limits.{Limits}
use Rattle.traces.specs.declared.trace.Entry.{Entry}
use Rattle.traces.specs.declared.trace.Turn.{Turn}
use Rattle.traces.specs.declared.trace.Turn.TheVariants.{Begin, Step}
use Rattle.traces.specs.trace.Trace.{command_of, memory_of, turn_of}
use Rattle.linearization.specs.Linearized.{IsLinearized}
use Rattle.step_core.specs.Turns.{Core, IsEventOf}
use Rattle.step_core.specs.declared.event.Event.{Event}
use Rattle.bw_shell.specs.declared.refusal.Refusal.{Refusal}
use Rattle.bw_shell.specs.declared.refusal.Refusal.TheVariants.{NoActor, Unfinished, NoOperation, Memory}

-- a core's limits, and what its turns did
pub record Trace : Type 0 where
  pub limits : Limits
  pub entries : List Entry

abbrev pub trace_of : Core → Trace
trace_of core = record { limits = core.limits; entries = core.entries }

abbrev pub opening_trace : Limits → Trace
opening_trace limits = record { limits = limits; entries = [] }

-- The turns so far took effect one at a time, on one ordered map.
abbrev pub IsOneMap : Trace → Type 0
IsOneMap trace = IsLinearized trace.limits (map turn_of trace.entries) trace.entries

-- whether there is such an actor, with an operation that isn't done
abbrev pub is_busy : Trace → ℕ → Bool
is_busy trace actor = nat_lt actor trace.limits.actors && is_some (command_of trace.entries actor)

-- Why the trace refuses a turn: there is no such actor, an operation begins before the actor's last one is done, or the
-- actor has no operation that could take a step.
abbrev pub refusal_in : Trace → Turn → Option Refusal
refusal_in trace (Begin actor command) =
    if nat_lt actor trace.limits.actors then (if is_some (command_of trace.entries actor) then Some Unfinished else None) else Some NoActor
refusal_in trace (Step actor) =
    if nat_lt actor trace.limits.actors then (if is_some (command_of trace.entries actor) then None else Some NoOperation) else Some NoActor

-- The turn isn't refused, and adds its entry to the trace. The event is the entry's: its reply, or the link of its exchange if that won.
pub record TakesTurn (before : Trace) (turn : Turn) (event : Event) (after : Trace) : Type 0 where
  pub free : refusal_in before turn ≡ None
  pub entry : Entry
  pub of_turn : turn_of entry ≡ turn
  pub event_of : IsEventOf (memory_of before.limits before.entries) entry event
  pub adds : after.entries ≡ before.entries ++ entry ∷ []
  pub limits : after.limits ≡ before.limits

-- The turn is refused for this reason: as the trace says, or for want of memory.
abbrev pub Refuses : Trace → Turn → Refusal → Type 0
Refuses trace turn refusal = (refusal_in trace turn ≡ Some refusal) ⊎ ((refusal_in trace turn ≡ None) × (refusal ≡ Memory))
