-- A reader among others: where its round stands, entry by entry of a trace.
use Rattle.std.specs.Prelude.{◌≡◌, ◌≢◌, ◌<◌, ◌+◌, ◌*◌, ◌++◌, ◌⊎◌, ℕ, List, [], ◌∷◌, Bool, true, false, Option, None, Some, ⊤, if◌then◌else◌}
use Rattle.std.specs.List.{count_by}
use Rattle.tree_limits.specs.declared.limits.Limits.{Limits}
use Rattle.bw_model.specs.declared.step.Answer.{Answer}
use Rattle.bw_model.specs.declared.step.Answer.TheVariants.{Whether}
use Rattle.bw_model.specs.declared.step.Link.{Link}
use Rattle.bw_model.specs.declared.step.Link.TheVariants as link
use Rattle.bw_model.specs.declared.step.Step.TheVariants.{Exchange}
use Rattle.deltas.specs.Memory.{Memory}
use Rattle.deltas.specs.declared.record.Record.{Record}
use Rattle.traces.specs.declared.trace.Entry.{Entry}
use Rattle.traces.specs.declared.trace.Entry.TheVariants.{Begin, Step}
use Rattle.traces.specs.discipline.Knowledge.{knows}
use Rattle.traces.specs.discipline.Recalled.{Recalled}
use Rattle.traces.specs.trace.Run.{IsNext}
use Rattle.traces.specs.trace.Trace.{memory_of}
use Rattle.round_model.specs.ReadRounds.{ReadRound, Shows, wanted_step}
use Rattle.op_machine.specs.machine.RoundSteps.{StepsReading}
use Rattle.op_machine.specs.machine.States.{Read}
use Rattle.op_machine.specs.machine.Tasks.{Task}
use Rattle.linearization.specs.Direct.{IsDirect, is_step_of}
use Rattle.linearization.specs.Links.{link_of}
use Rattle.tree_law.specs.State.{IsState}
use Rattle.progress.specs.RoundsEnd.{one_walk}

-- an entry, and where the reader's round stands after it
pub record Moment : Type 0 where
  pub entry : Entry
  pub round : ReadRound

-- The entry is another actor's.
abbrev pub IsOthers : ℕ → Entry → Type 0
IsOthers actor (Begin other command) = other ≢ actor
IsOthers actor (Step other step answer reply) = other ≢ actor

-- The reader takes the step that its round wants, and goes on by what the round makes of the answer.
pub record IsOwnMoment (actor : ℕ) (task : Task) (round : ReadRound) (moment : Moment) : Type 0 where
  pub answer : Answer Record
  pub entry_is : moment.entry ≡ Step actor (wanted_step round) answer None
  pub steps : StepsReading task round answer (Read moment.round)

-- Another actor has the entry, and the reader's round stays.
pub record IsOtherMoment (actor : ℕ) (round : ReadRound) (moment : Moment) : Type 0 where
  pub others : IsOthers actor moment.entry
  pub stays : moment.round ≡ round

-- whether a link changes the tree, and doesn't fill the slot of an own page or empty it again
abbrev pub is_change : Option Link → Bool
is_change None = false
is_change (Some link.Ready) = false
is_change (Some link.Undo) = false
is_change (Some kind) = true

-- The entry changes the tree: an exchange that won with such a link.
abbrev pub changes_tree : Memory → Entry → Bool
changes_tree memory (Step actor (Exchange slot old new) (Whether true) reply) = is_change (link_of memory slot old new)
changes_tree memory entry = false

-- how many of the moments are the reader's steps
abbrev pub own_steps : ℕ → List Moment → ℕ
own_steps actor moments = count_by (λ (moment : Moment). is_step_of actor moment.entry) moments

-- The entry may stand after the trace, and makes it a state that is direct; before it the round shows what the reader's actor knows.
pub record IsLawfulMoment (limits : Limits) (actor : ℕ) (task : Task) (entries : List Entry) (round : ReadRound) (moment : Moment) : Type 0 where
  pub next : IsNext limits entries moment.entry
  pub later : IsState limits (entries ++ moment.entry ∷ [])
  pub direct : IsDirect limits (entries ++ moment.entry ∷ [])
  pub r : Recalled
  pub shows : Shows round (knows entries actor) r
  pub goes : IsOwnMoment actor task round moment ⊎ IsOtherMoment actor round moment

-- These moments follow the trace, after which the round stands so.
abbrev pub AreLawful : Limits → ℕ → Task → List Entry → ReadRound → List Moment → Type 0
AreLawful limits actor task entries round [] = ⊤
AreLawful limits actor task entries round (moment ∷ moments) =
    IsLawfulMoment limits actor task entries round moment × AreLawful limits actor task (entries ++ moment.entry ∷ []) moment.round moments

-- how many of the moments change the tree
abbrev pub all_changes : Limits → List Entry → List Moment → ℕ
all_changes limits entries [] = 0
all_changes limits entries (moment ∷ moments) = (if changes_tree (memory_of limits entries) moment.entry then 1 else 0) + all_changes limits (entries ++ moment.entry ∷ []) moments

-- Beside removals, too, a reader takes few steps but for changes of the tree: for each of them as many at most as in one memory, with the step
-- after which it is to leave.
abbrev pub ReadersEndAmongChanges : Type 0
ReadersEndAmongChanges = (limits : Limits) (entries : List Entry) (actor : ℕ) (task : Task) (round : ReadRound) (moments : List Moment) → IsState limits entries
    → AreLawful limits actor task entries round moments → own_steps actor moments < (1 + all_changes limits entries moments) * ((4 + limits.pids) * one_walk limits)
