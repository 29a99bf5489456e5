-- A core as its callers see it, what it refuses, and what a turn adds.
use Rattle.std.specs.Prelude.{◌≡◌, ◌≢◌, ℕ, List, [], ◌∷◌, ◌++◌, length, Option, Some, None, Bool, true, false, is_some, nat_lt, if◌then◌else◌, slice_get, take, map, ◌⊎◌, ◌≤◌}
use Rattle.bw_model.specs.declared.command.Command.{Command}
use Rattle.bw_model.specs.declared.command.Command.TheVariants.{Back, Page}
use Rattle.bw_model.specs.declared.command.Reply.{Reply}
use Rattle.tree_limits.specs.declared.limits.Limits.{Limits}
use Rattle.bw_model.specs.declared.step.Answer.{Answer}
use Rattle.bw_model.specs.declared.step.Answer.TheVariants.{Whether}
use Rattle.bw_model.specs.declared.step.Link.{Link}
use Rattle.bw_model.specs.declared.step.Step.{Step as StepOf}
use Rattle.bw_model.specs.declared.step.Step.TheVariants.{Exchange, Leave}
use Rattle.deltas.specs.declared.record.Record.{Record}
use Rattle.traces.specs.declared.trace.Entry.{Entry}
use Rattle.traces.specs.declared.trace.Entry.TheVariants as entry
use Rattle.traces.specs.declared.trace.Turn.{Turn}
use Rattle.traces.specs.declared.trace.Turn.TheVariants.{Begin, Step}
use Rattle.traces.specs.discipline.Disciplined.{IsDisciplined}
use Rattle.traces.specs.trace.Steps.{IsAnswer, MovesRecord}
use Rattle.traces.specs.trace.Trace.{command_of, memory_of, turn_of}
use Rattle.deltas.specs.Memory.{Memory}
use Rattle.linearization.specs.Linearized.{IsLinearized, IsOrderly}
use Rattle.linearization.specs.Links.{link_of}
use Rattle.step_core.specs.declared.event.RunError.{RunError}
use Rattle.step_core.specs.declared.event.RunError.TheVariants.{NoActor, Unfinished, NoOperation, Memory as OutOfMemory}
use Rattle.step_core.specs.declared.event.Event.{Event}
use Rattle.step_core.specs.declared.event.Event.TheVariants.{Began, Stepped, Done}

-- Where a core may want memory: how many entries its trace takes without a growth, and the step that each actor's operation wants.
pub record Demand : Type 0 where
  pub room : ℕ
  pub wanted : List (Option (StepOf Record))

pub record Core : Type 0 where
  pub limits : Limits
  pub entries : List Entry
  pub demand : Demand

-- whether an actor has an operation, if there is such an actor
abbrev pub busy_of : Core → ℕ → Option Bool
busy_of core actor = if nat_lt actor core.limits.actors then Some (is_some (command_of core.entries actor)) else None

abbrev pub refused_by : ℕ → Turn → Option Bool → Option RunError
refused_by number turn None = Some (NoActor number)
refused_by number (Begin actor command) (Some false) = None
refused_by number (Begin actor command) (Some true) = Some (Unfinished number)
refused_by number (Step actor) (Some false) = Some (NoOperation number)
refused_by number (Step actor) (Some true) = None

abbrev pub actor_of : Turn → ℕ
actor_of (Begin actor command) = actor
actor_of (Step actor) = actor

-- Why a turn is refused, but for want of memory: there is no such actor; it begins while the actor's operation is
-- unfinished; it steps without an operation.
abbrev pub refusal_of : Core → Turn → Option RunError
refusal_of core turn = refused_by (length core.entries) turn (busy_of core (actor_of turn))

-- The step is the last one of a page, of either direction, whose pairs are kept.
pub record EndsPage (command : Option Command) (step : StepOf Record) : Type 0 where
  pub bound : List ℕ
  pub asks : (command ≡ Some (Page bound)) ⊎ (command ≡ Some (Back bound))
  pub leaves : step ≡ Leave

-- what an actor keeps of its step is more than an entry has room for
abbrev pub KeepsMore : Option Command → Option (StepOf Record) → Type 0
KeepsMore command None = ⊥
KeepsMore command (Some step) = MovesRecord step ⊎ EndsPage command step

-- A turn wants memory only where the trace has no room left; but a step may want it also for a record that it places or reads,
-- and the last one of a page, of either direction, for its pairs.
abbrev pub WantsMemory : Core → Turn → Type 0
WantsMemory core (Begin actor command) = core.demand.room ≤ length core.entries
WantsMemory core (Step actor) =
    (core.demand.room ≤ length core.entries) ⊎ ((wanted : Option (StepOf Record)) × (slice_get core.demand.wanted actor ≡ Some wanted) × KeepsMore (command_of core.entries actor) wanted)

-- the step that the actor's operation wants is the leave
abbrev pub LeavesAt : Core → ℕ → Type 0
LeavesAt core actor = slice_get core.demand.wanted actor ≡ Some (Some Leave)

-- the turn begins an operation, or ends it
abbrev pub BeginsOrLeaves : Core → Turn → Type 0
BeginsOrLeaves core (Begin actor command) = Unit {0}
BeginsOrLeaves core (Step actor) = LeavesAt core actor

-- what an exchange that won did, by the memory before it
abbrev pub link_told : Memory → StepOf Record → Answer Record → Option Link
link_told memory (Exchange slot old new) (Whether true) = link_of memory slot old new
link_told memory step answer = None

-- what a step tells, by its link and its reply
abbrev pub step_event : Option Link → Option Reply → Event
step_event link None = Stepped link
step_event link (Some reply) = Done reply

-- whether it is an exchange that won
abbrev pub is_won : StepOf Record → Answer Record → Bool
is_won (Exchange slot old new) (Whether won) = won
is_won step answer = false

-- The event tells that an operation began, or its reply, or what an exchange that won did.
abbrev pub IsEventOf : Memory → Entry → Event → Type 0
IsEventOf memory (entry.Begin actor command) event = event ≡ Began
IsEventOf memory (entry.Step actor step answer (Some reply)) event = event ≡ Done reply
IsEventOf memory (entry.Step actor step answer None) event = (event ≡ Stepped (link_told memory step answer)) × (is_some (link_told memory step answer) ≡ is_won step answer)

-- A step has the answer of the memory before it.
abbrev pub IsAnsweredIn : Memory → Entry → Type 0
IsAnsweredIn memory (entry.Begin actor command) = Unit {0}
IsAnsweredIn memory (entry.Step actor step answer reply) = IsAnswer memory step answer

-- The step is the one that its actor's operation wanted.
abbrev pub IsWanted : Core → Entry → Type 0
IsWanted core (entry.Begin actor command) = Unit {0}
IsWanted core (entry.Step actor step answer reply) = slice_get core.demand.wanted actor ≡ Some (Some step)

-- What any other actor's operation wants stays as it is.
abbrev pub KeepsOthers : ℕ → Core → Core → Type 0
KeepsOthers actor old new = (other : ℕ) → other ≢ actor → slice_get new.demand.wanted other ≡ slice_get old.demand.wanted other

-- There is one entry more, which belongs to the turn.
pub record AddsTurn (old : Core) (turn : Turn) (event : Event) (new : Core) : Type 0 where
  pub added : Entry
  pub entries : new.entries ≡ old.entries ++ added ∷ []
  pub of_turn : turn_of added ≡ turn
  pub wanted : IsWanted old added
  pub others : KeepsOthers (actor_of turn) old new
  pub room : old.demand.room ≤ new.demand.room
  pub told : IsAnsweredIn (memory_of old.limits old.entries) added
  pub event_of : IsEventOf (memory_of old.limits old.entries) added event
  pub same_limits : new.limits ≡ old.limits

-- Each of the turns adds its entry, one after another.
abbrev pub AddsTurns : Core → List Turn → Core → Type 0
AddsTurns old [] new = new ≡ old
AddsTurns old (turn ∷ turns) new = (next : Core) × (event : Event) × AddsTurn old turn event next × AddsTurns next turns new

-- Some of the turns were taken, and the core that they left refuses the next one, for want of memory only where nothing else
-- refuses it.
pub record StopsAt (old : Core) (turns : List Turn) (error : RunError) (new : Core) : Type 0 where
  pub count : ℕ
  pub added : AddsTurns old (take count turns) new
  pub next : Turn
  pub is_next : slice_get turns count ≡ Some next
  pub refused : (refusal : RunError) → refusal_of new next ≡ Some refusal → error ≡ refusal
  pub memory : refusal_of new next ≡ None → (error ≡ OutOfMemory (length new.entries)) × WantsMemory new next

-- A core was opened, took turns, and refused the next one; in what it took each actor obeyed its discipline, and it is linearized.
pub record StopsOnTheWay (limits : Limits) (turns : List Turn) (error : RunError) : Type 0 where
  pub opened : Core
  pub empty : opened.entries ≡ []
  pub opened_at : opened.limits ≡ limits
  pub left : Core
  pub stops : StopsAt opened turns error left
  pub disciplined : IsDisciplined limits left.entries
  pub linearized : IsLinearized limits (map turn_of left.entries) left.entries
  pub orderly : IsOrderly limits left.entries

-- A run of the turns ends early: no core was opened, for want of memory, or one stopped on the way.
abbrev pub Stops : Limits → List Turn → RunError → Type 0
Stops limits turns error = (error ≡ OutOfMemory 0) ⊎ StopsOnTheWay limits turns error
