-- The way from the root to a page: the step that it wants, and what it makes of an answer.
use Rattle.std.specs.Prelude.{◌≡◌, ◌⊎◌, ℕ, Option, Some, None, true, ⊤}
use Rattle.tree_limits.specs.declared.limits.Limits.{Limits}
use Rattle.bw_model.specs.declared.step.Step.{Step as StepOf}
use Rattle.bw_model.specs.declared.step.Step.TheVariants as step
use Rattle.bw_model.specs.declared.step.Answer.{Answer}
use Rattle.bw_model.specs.declared.step.Answer.TheVariants.{Number}
use Rattle.deltas.specs.declared.record.Record.{Record}
use Rattle.traces.specs.discipline.Knowledge.{Knowledge}
use Rattle.traces.specs.discipline.Recalled.{Recalled, few_reads}
use Rattle.round_model.specs.Machines.{Machine}
use Rattle.round_model.specs.Visits as page
use Rattle.round_model.specs.Walks.{reads_left_in}
use Rattle.round_model.specs.Visits.{Sight}

-- where a descent stands: each state is named by what it reads
pub data WayState : Type 0 where
  Root : WayState
  Page : (visit : page.Visit) → WayState

pub record Descent : Type 0 where
  pub limits : Limits
  pub state : WayState

abbrev pub IsSoundState : Limits → WayState → Type 0
IsSoundState limits Root = ⊤
IsSoundState limits (Page visit) = visit.limits ≡ limits

-- the step that a state has asked for
abbrev pub wanted_at : WayState → StepOf Record
wanted_at Root = step.Slot 0
wanted_at (Page visit) = page.wanted_step visit

abbrev pub wanted_step : Descent → StepOf Record
wanted_step descent = wanted_at descent.state

-- the descent, gone to a state, and to a page
abbrev pub at : Descent → WayState → Descent
at descent state = record descent { state = state }

abbrev pub going_to : ℕ → Descent → Descent
going_to pid descent = at descent (Page (page.to_page descent.limits pid))

-- by the state of a descent
abbrev pub ShowsState : Knowledge → WayState → Type 0
ShowsState k Root = k.inside ≡ true
ShowsState k (Page visit) = page.Shows visit k

abbrev pub Shows : Descent → Knowledge → Type 0
Shows descent k = ShowsState k descent.state

abbrev pub descending : Machine Descent
descending = record { limits = λ descent. descent.limits; wanted = wanted_step; Shows = λ descent k r. Shows descent k }

-- Slot 0 was read, and the root is visited.
pub record Starts (old : Descent) (told : Answer Record) (new : Descent) : Type 0 where
  pub root : ℕ
  pub asked : old.state ≡ Root
  pub is : told ≡ Number root
  pub goes : new ≡ going_to root old

-- The visit of a page goes on.
pub record Visits (old : Descent) (told : Answer Record) (new : Descent) : Type 0 where
  pub visit : page.Visit
  pub next : page.Visit
  pub asked : old.state ≡ Page visit
  pub responds : page.Responds visit told next None
  pub goes : new ≡ at old (Page next)

-- The visit of a page ended, and found this.
pub record Finds (old : Descent) (told : Answer Record) (sight : Sight) : Type 0 where
  pub visit : page.Visit
  pub next : page.Visit
  pub asked : old.state ≡ Page visit
  pub responds : page.Responds visit told next (Some sight)

-- what a descent makes of an answer
abbrev pub Responds : Descent → Answer Record → Descent → Option Sight → Type 0
Responds old told new None = Starts old told new ⊎ Visits old told new
Responds old told new (Some sight) = Finds old told sight

-- how many reads a round takes at most from a state on, with those that are reserved once a removal was read
abbrev pub left_from : Limits → ℕ → Recalled → WayState → ℕ
left_from limits reserve r Root = few_reads limits
left_from limits reserve r (Page visit) = reads_left_in limits reserve r visit

-- The slot of the page to which a descent had gone was read last as 0.
pub record FoundNothing (state : WayState) (r : Recalled) : Type 0 where
  pub visit : page.Visit
  pub asked : state ≡ Page visit
  pub at_slot : visit.state ≡ page.Slot
  pub empty : r.heads visit.pid ≡ Some 0
