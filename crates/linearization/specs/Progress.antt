-- What costs an operation steps: changes of the tree, and the numbers that others take; and how steps are counted.
use Rattle.std.specs.Prelude.{◌≢◌, ◌≤◌, ◌⊎◌, ℕ, suc, List, Bool, true, false, None, Some, slice_range}
use Rattle.std.specs.List.{All, count_by}
use Rattle.std.specs.List.Sorted.{IsStrictlyIncreasing}
use Rattle.tree_limits.specs.declared.limits.Limits.{Limits}
use Rattle.bw_model.specs.declared.step.Answer.{Answer}
use Rattle.bw_model.specs.declared.step.Answer.TheVariants.{Whether}
use Rattle.bw_model.specs.declared.step.Link.{Link}
use Rattle.bw_model.specs.declared.step.Link.TheVariants as link
use Rattle.bw_model.specs.declared.step.Step.{Step as StepOf}
use Rattle.bw_model.specs.declared.step.Step.TheVariants.{TakePid, TakeRow}
use Rattle.deltas.specs.Memory.{Memory}
use Rattle.deltas.specs.declared.record.Record.{Record}
use Rattle.traces.specs.declared.trace.Entry.{Entry}
use Rattle.traces.specs.declared.trace.Entry.TheVariants.{Begin, Step}
use Rattle.traces.specs.trace.Trace.{Happens, IsStep, TakesStep}
use Rattle.linearization.specs.Direct.{is_step_of}
use Rattle.linearization.specs.Links.{Wins}

-- The entry changes the tree: an exchange that won, and neither filled the slot of an own page nor emptied it again.
abbrev pub ChangesTree : Memory → Entry → Type 0
ChangesTree memory entry = (actor slot old new : ℕ) × (kind : Link) × Wins memory entry actor slot old new kind × (kind ≢ link.Ready) × (kind ≢ link.Undo)

-- Another actor takes a row or a PID.
abbrev pub TakesBeside : ℕ → Memory → Entry → Type 0
TakesBeside actor memory entry = (other number : ℕ) × (other ≢ actor) × (IsStep entry other (TakePid number) (Whether true) ⊎ IsStep entry other (TakeRow number) (Whether true))

-- The entry may cost the actor's operation steps: it changes the tree, or another actor takes a number by it.
abbrev pub Hinders : ℕ → Memory → Entry → Type 0
Hinders actor memory entry = ChangesTree memory entry ⊎ TakesBeside actor memory entry

-- All entries from m to n are steps of the actor.
abbrev pub RunsAlone : List Entry → ℕ → ℕ → ℕ → Type 0
RunsAlone entries actor m n = (k : ℕ) → m ≤ k → k ≤ n → (step : StepOf Record) × (answer : Answer Record) × TakesStep entries k actor step answer

abbrev pub is_begin : Entry → Bool
is_begin (Begin actor command) = true
is_begin (Step actor step answer reply) = false

abbrev pub is_step : Entry → Bool
is_step (Begin actor command) = false
is_step (Step actor step answer reply) = true

-- the entry ends an operation
abbrev pub is_end : Entry → Bool
is_end (Begin actor command) = false
is_end (Step actor step answer None) = false
is_end (Step actor step answer (Some reply)) = true

-- the entry takes a row or a PID
abbrev pub takes_number : Entry → Bool
takes_number (Step actor (TakePid pid) (Whether true) reply) = true
takes_number (Step actor (TakeRow row) (Whether true) reply) = true
takes_number entry = false

-- how many steps an actor takes from entry m to entry n
abbrev pub steps_from : List Entry → ℕ → ℕ → ℕ → ℕ
steps_from entries actor m n = count_by (is_step_of actor) (slice_range entries m (suc n))

module _ (limits : Limits) (entries : List Entry) where
  -- These are entries from m to n, in order, each of the kind.
  pub record AreAmong (m n : ℕ) (Kind : Memory → Entry → Type 0) (places : List ℕ) : Type 0 where
    pub increasing : IsStrictlyIncreasing places
    pub each : All (λ place. (m ≤ place) × (place ≤ n) × Happens limits entries place Kind) places
