-- The laws over traces, each the contract of a function: what an entry changes, what allowed entries keep, and what is so of
-- each state.
use Rattle.std.specs.Prelude.{◌≡◌, ◌<◌, ◌++◌, ◌∷◌, [], List, ℕ, None, Option, Some, IsSome, map}
use Rattle.bw_model.specs.declared.command.Command.{Command}
use Rattle.bw_model.specs.declared.command.Reply.{Reply}
use Rattle.tree_limits.specs.declared.limits.Limits.{Limits}
use Rattle.bw_model.specs.declared.step.Answer.{Answer}
use Rattle.bw_model.specs.declared.step.Step.{Step as StepOf}
use Rattle.bw_model.specs.declared.step.Step.TheVariants.{Row}
use Rattle.deltas.specs.declared.record.Record.{Record}
use Rattle.traces.specs.discipline.Discipline.{IsAllowed, May}
use Rattle.traces.specs.discipline.Disciplined.{IsDisciplined, own_entries}
use Rattle.traces.specs.discipline.Fitting.{Fits}
use Rattle.traces.specs.discipline.Knowledge.{knows, knows_after}
use Rattle.traces.specs.discipline.Recalled.{recalls, recalls_after}
use Rattle.traces.specs.trace.Steps.{IsAnswer}
use Rattle.traces.specs.trace.Trace.{command_of, commands_after, memory_after_entry, memory_of, turn_of}
use Rattle.traces.specs.declared.trace.Entry.{Entry}
use Rattle.traces.specs.declared.trace.Entry.TheVariants.{Begin, Step}
use Rattle.linearization.specs.Index.{IsExactIndex}
use Rattle.linearization.specs.Linearized.{IsLinearized}
use Rattle.linearization.specs.Phases.{KeepsPhases}
use Rattle.linearization.specs.Points.{log_of}
use Rattle.linearization.specs.Quiet.{HasMapOf}
use Rattle.linearization.specs.Reuse.{IsFreedByRule}
use Rattle.tree_law.specs.Leaves.{HasLeafPages}
use Rattle.tree_law.specs.LevelPages.{HasAllLevels}
use Rattle.tree_law.specs.OneMemory.{HasWholeTree}
use Rattle.tree_law.specs.State.{IsState}

-- The entry changes the memory, the commands under way, and what actors know and recall, each by what it was before.
pub record Grows (limits : Limits) (entries : List Entry) (entry : Entry) : Type 0 where
  pub memory : memory_of limits (entries ++ entry ∷ []) ≡ memory_after_entry (memory_of limits entries) entry
  pub commands : command_of (entries ++ entry ∷ []) ≡ commands_after (command_of entries) entry
  pub known : knows (entries ++ entry ∷ []) ≡ knows_after (knows entries) entry
  pub recalled : recalls (entries ++ entry ∷ []) ≡ recalls_after (recalls entries) entry

abbrev pub EntriesGrow : Type 0
EntriesGrow = (limits : Limits) (entries : List Entry) (entry : Entry) → Grows limits entries entry

-- An actor whose own entries are the same knows the same.
abbrev pub KnowledgeIsOwn : Type 0
KnowledgeIsOwn = (entries others : List Entry) (actor : ℕ) → own_entries actor entries ≡ own_entries actor others → knows entries actor ≡ knows others actor

-- the empty trace is such a state
abbrev pub Opens : (Limits → List Entry → Type 0) → Type 0
Opens IsSuch = (limits : Limits) → IsSuch limits []

-- a begin keeps one, where the actor is there and has no operation
abbrev pub BeginsKeep : (Limits → List Entry → Type 0) → Type 0
BeginsKeep IsSuch =
    (limits : Limits) (entries : List Entry) (actor : ℕ) (command : Command) → IsSuch limits entries → actor < limits.actors → command_of entries actor ≡ None
    → IsSuch limits (entries ++ Begin actor command ∷ [])

-- an allowed step keeps one of the tree, with the memory's answer
abbrev pub Steps : Type 0
Steps = (limits : Limits) (entries : List Entry) (actor : ℕ) (step : StepOf Record) (answer : Answer Record) (reply : Option Reply) → IsState limits entries → IsSome (command_of entries actor)
    → IsAllowed limits actor (knows entries actor) step reply → IsAnswer (memory_of limits entries) step answer → IsState limits (entries ++ Step actor step answer reply ∷ [])

-- where each actor obeys its discipline, the trace is one
abbrev pub DisciplinedRuns : Type 0
DisciplinedRuns = (limits : Limits) (entries : List Entry) → IsDisciplined limits entries → IsState limits entries

-- what is so of each such trace
abbrev pub RunsAreLinearized : Type 0
RunsAreLinearized = (limits : Limits) (entries : List Entry) → IsDisciplined limits entries → IsLinearized limits (map turn_of entries) entries

abbrev pub RunsKeepPhases : Type 0
RunsKeepPhases = (limits : Limits) (entries : List Entry) → IsDisciplined limits entries → KeepsPhases limits entries

abbrev pub RunsAreIndexed : Type 0
RunsAreIndexed = (limits : Limits) (entries : List Entry) → IsDisciplined limits entries → IsExactIndex limits entries

abbrev pub RunsFreeByRule : Type 0
RunsFreeByRule = (limits : Limits) (entries : List Entry) → IsDisciplined limits entries → IsFreedByRule limits entries

-- what is so of each state
abbrev pub StatesAreLinearized : Type 0
StatesAreLinearized = (limits : Limits) (entries : List Entry) → IsState limits entries → IsLinearized limits (map turn_of entries) entries

abbrev pub StatesKeepPhases : Type 0
StatesKeepPhases = (limits : Limits) (entries : List Entry) → IsState limits entries → KeepsPhases limits entries

abbrev pub StatesAreIndexed : Type 0
StatesAreIndexed = (limits : Limits) (entries : List Entry) → IsState limits entries → IsExactIndex limits entries

abbrev pub StatesFreeByRule : Type 0
StatesFreeByRule = (limits : Limits) (entries : List Entry) → IsState limits entries → IsFreedByRule limits entries

-- the leaves of a state stand
abbrev pub LeavesStand : Type 0
LeavesStand = (limits : Limits) (entries : List Entry) → IsState limits entries → HasLeafPages limits (memory_of limits entries)

-- all levels of a state stand
abbrev pub LevelsStand : Type 0
LevelsStand = (limits : Limits) (entries : List Entry) → IsState limits entries → HasAllLevels limits (memory_of limits entries)

-- the memory of a state has a whole tree
abbrev pub StatesHaveWholeTrees : Type 0
StatesHaveWholeTrees = (limits : Limits) (entries : List Entry) → IsState limits entries → HasWholeTree limits (memory_of limits entries)

-- by whatever points a trace is linearized, the leaves have the map of their log
abbrev pub LeavesHaveMap : Type 0
LeavesHaveMap = (limits : Limits) (entries : List Entry) (linear : IsLinearized limits (map turn_of entries) entries) → HasMapOf (memory_of limits entries) (log_of entries linear.points)

-- a row that an actor may read has a record
abbrev pub RowsStand : Type 0
RowsStand =
    (limits : Limits) (entries : List Entry) (actor row : ℕ) → IsState limits entries → May actor (knows entries actor) (Row row)
    → (content : Record) × ((memory_of limits entries).rows row ≡ Some content)

-- a row that stands in the slot of a page has a record
abbrev pub HeadsStand : Type 0
HeadsStand = (limits : Limits) (entries : List Entry) (page : ℕ) → IsState limits entries → 0 < page → 0 < (memory_of limits entries).slots page
    → (content : Record) × ((memory_of limits entries).rows ((memory_of limits entries).slots page) ≡ Some content)

-- what the memory answers fits what the actor knows
abbrev pub AnswersFit : Type 0
AnswersFit = (limits : Limits) (entries : List Entry) (actor : ℕ) (step : StepOf Record) (answer : Answer Record) → IsState limits entries
    → May actor (knows entries actor) step → IsAnswer (memory_of limits entries) step answer → Fits limits (knows entries actor) step answer
