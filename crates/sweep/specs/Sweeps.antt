-- The sweep of an actor's limbo: the steps by which it is freed.
use Rattle.std.specs.Prelude.{◌≡◌, ◌<◌, ◌*◌, ◌/◌, ◌^◌, ℕ, suc, ltb, Bool, true, false, if◌then◌else◌, Option, None, Some, IsTrue, IsFalse, ⊤}
use Rattle.tree_limits.specs.declared.limits.Limits.{Limits}
use Rattle.bw_model.specs.declared.step.Answer.{Answer}
use Rattle.bw_model.specs.declared.step.Answer.TheVariants.{Done}
use Rattle.bw_model.specs.declared.step.Step.{Step as StepOf}
use Rattle.bw_model.specs.declared.step.Step.TheVariants as step
use Rattle.deltas.specs.declared.record.Record.{Record}
use Rattle.traces.specs.discipline.Discipline.{MayFree}
use Rattle.traces.specs.discipline.Fitting.{Fits}
use Rattle.traces.specs.discipline.Knowledge as known
use Rattle.traces.specs.discipline.Knowledge.{Knowledge, learn}
use Rattle.epochs.specs.declared.entry.Stage.{Stage}
use Rattle.epochs.specs.declared.entry.Stage.TheVariants.{Unstamped, Stamped, Passed}
use Rattle.epochs.specs.declared.item.Reuse.{Reuse}
use Rattle.epochs.specs.declared.item.Reuse.TheVariants.{Rows, Pids}
use Rattle.epochs.specs.Limbo.{Limbo, stage_of}
use Rattle.epochs.specs.Reclamation.{has_passed}
use Rattle.epochs.specs.Words.{HasNone, may_go}
use Rattle.sweep.specs.Announced.{Announced, none_yet}
use Rattle.sweep.specs.declared.sweep.State.{State}
use Rattle.sweep.specs.declared.sweep.State.TheVariants as state
use Rattle.sweep.specs.Kept.{AreKept, IsLimboOf}

pub record Sweep : Type 0 where
  pub limits : Limits
  pub actor : ℕ
  pub state : State

-- the actors but this one, in ascending order
abbrev pub other_at : ℕ → ℕ → ℕ
other_at actor place = if ltb place actor then place else suc place

abbrev pub step_of : Reuse → StepOf Record
step_of (Rows word bits) = step.ReuseRows word bits
step_of (Pids word bits) = step.ReusePids word bits

-- the step that a sweep wants: of the other actors it reads the first one that it has not read
abbrev pub wanted_at : ℕ → State → StepOf Record
wanted_at actor state.Epoch = step.Epoch
wanted_at actor (state.Retire epoch) = step.Retire epoch
wanted_at actor (state.Announce announced) = step.Announce (other_at actor announced.count)
wanted_at actor (state.Reuse reuse) = step_of reuse

abbrev pub wanted_step : Sweep → StepOf Record
wanted_step sweep = wanted_at sweep.actor sweep.state

-- the steps of a sweep
abbrev pub IsOfSweep : StepOf Record → Type 0
IsOfSweep step.Epoch = ⊤
IsOfSweep (step.Retire epoch) = ⊤
IsOfSweep (step.Announce other) = ⊤
IsOfSweep (step.ReuseRows word bits) = ⊤
IsOfSweep (step.ReusePids word bits) = ⊤
IsOfSweep asked = ⊥

-- The word of the reuse is there.
abbrev pub HasPlace : Limits → Reuse → Type 0
HasPlace limits (Rows word bits) = 64 * word < limits.rows
HasPlace limits (Pids word bits) = 64 * word < limits.pids

-- What may be freed now comes after this reuse.
abbrev pub ComesFirst : Reuse → Limbo → Type 0
ComesFirst (Rows word bits) limbo = (row : ℕ) → IsTrue (may_go limbo.rows.entries row) → word < row / 64
ComesFirst (Pids word bits) limbo = HasNone limbo.rows.entries × ((pid : ℕ) → IsTrue (may_go limbo.pids.entries pid) → word < pid / 64)

-- What a state names is there.
abbrev pub IsSoundState : Limits → State → Type 0
IsSoundState limits state.Epoch = ⊤
IsSoundState limits (state.Retire epoch) = epoch < 2 ^ 62
IsSoundState limits (state.Announce announced) = suc announced.count < limits.actors
IsSoundState limits (state.Reuse reuse) = HasPlace limits reuse

abbrev pub IsInOrder : State → Limbo → Type 0
IsInOrder (state.Reuse reuse) limbo = ComesFirst reuse limbo
IsInOrder state limbo = ⊤

-- A sweep and the limbo of its actor.
pub record IsSoundSweep (sweep : Sweep) (limbo : Limbo) : Type 0 where
  pub lists : IsLimboOf sweep.limits limbo
  pub order : IsInOrder sweep.state limbo

-- Where the least epoch that was read lets the stamp pass, the other actors whose announced epochs were read are known to have passed.
abbrev pub HaveTold : ℕ → Announced → ℕ → (ℕ → Bool) → Type 0
HaveTold actor announced stamp passed = IsTrue (has_passed stamp announced.least) → (place : ℕ) → place < announced.count → IsTrue (passed (other_at actor place))

-- the same of a number: in the list it has a stamp
abbrev pub Told : ℕ → Announced → Option Stage → known.LimboMark → Type 0
Told actor announced None limbo = ⊤
Told actor announced (Some Unstamped) limbo = ⊥
Told actor announced (Some (Stamped stamp)) known.Absent = ⊤
Told actor announced (Some (Stamped stamp)) known.Unstamped = ⊤
Told actor announced (Some (Stamped stamp)) (known.Stamped epoch passed) = HaveTold actor announced stamp passed
Told actor announced (Some (Passed stamp)) known.Absent = ⊤
Told actor announced (Some (Passed stamp)) known.Unstamped = ⊤
Told actor announced (Some (Passed stamp)) (known.Stamped epoch passed) = HaveTold actor announced stamp passed

-- All numbers in limbo have stamps, and this was announced since.
pub record AreTold (actor : ℕ) (announced : Announced) (limbo : Limbo) (now : known.Limbos) : Type 0 where
  pub rows : (row : ℕ) → Told actor announced (stage_of limbo.rows row) (now.rows row)
  pub pids : (pid : ℕ) → Told actor announced (stage_of limbo.pids pid) (now.pids pid)

-- By the state of a sweep: the limbo agrees with what is known. A reuse that was asked for may be taken, and the limbo agrees with
-- what will be known then.
abbrev pub ShowsState : Limits → ℕ → State → Limbo → Knowledge → Type 0
ShowsState limits actor state.Epoch limbo k = AreKept limits actor limbo k.limbo
ShowsState limits actor (state.Retire epoch) limbo k = AreKept limits actor limbo k.limbo × AreTold actor none_yet limbo k.limbo
ShowsState limits actor (state.Announce announced) limbo k = AreKept limits actor limbo k.limbo × AreTold actor announced limbo k.limbo
ShowsState limits actor (state.Reuse reuse) limbo k = MayFree limits actor k (step_of reuse) × AreKept limits actor limbo (learn k (step_of reuse) Done).limbo

-- The actor is outside, and its limbo is being swept.
pub record Shows (sweep : Sweep) (limbo : Limbo) (k : Knowledge) : Type 0 where
  pub outside : IsFalse k.inside
  pub stands : ShowsState sweep.limits sweep.actor sweep.state limbo k

-- The actor is outside, and its limbo is kept as it is.
pub record IsKeptOutside (limits : Limits) (actor : ℕ) (limbo : Limbo) (k : Knowledge) : Type 0 where
  pub outside : IsFalse k.inside
  pub kept : AreKept limits actor limbo k.limbo

-- Something is known that the answer to the step wanted last fits.
pub record FitsSweep (sweep : Sweep) (told : Answer Record) : Type 0 where
  pub k : Knowledge
  pub fits : Fits sweep.limits k (wanted_step sweep) told

-- A sweep that goes on is shown, and one that has ended leaves its actor at rest.
abbrev pub ShowsThen : Bool → Sweep → Limbo → Knowledge → Type 0
ShowsThen true sweep limbo k = Shows sweep limbo k
ShowsThen false sweep limbo k = IsKeptOutside sweep.limits sweep.actor limbo k

-- What follows from an answer. Nothing is learnt but of the limbo.
pub record LearnsOfLimbo (k now : Knowledge) (sweep : Sweep) (limbo : Limbo) (goes : Bool) : Type 0 where
  pub only : now ≡ record k { limbo = now.limbo }
  pub shows : ShowsThen goes sweep limbo now

-- Only the state has changed.
pub record IsSameSweep (old new : Sweep) : Type 0 where
  pub limits : new.limits ≡ old.limits
  pub actor : new.actor ≡ old.actor
