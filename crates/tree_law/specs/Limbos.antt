-- Where a trace shows that what an actor has in its limbo was taken out of the tree, stamped, and passed by other actors.
use Rattle.std.specs.Prelude.{◌≡◌, ◌<◌, ◌⊎◌, ℕ, List, length, Bool, true, ⊤}
use Rattle.bw_model.specs.declared.step.Answer.{Answer}
use Rattle.bw_model.specs.declared.step.Answer.TheVariants.{Number}
use Rattle.bw_model.specs.declared.step.Step.{Step as StepOf}
use Rattle.bw_model.specs.declared.step.Step.TheVariants.{Epoch, Announce}
use Rattle.deltas.specs.declared.record.Record.{Record}
use Rattle.traces.specs.declared.trace.Entry.{Entry}
use Rattle.traces.specs.discipline.Knowledge.{LimboMark, Absent, Unstamped, Stamped}
use Rattle.traces.specs.trace.Trace.{TakesStep}

-- The actor's exchange took it out, and no step has handed it on since.
pub record WasTakenOut (entries : List Entry) (Unlinks : ℕ → Type 0) (Hands : StepOf Record → Answer Record → Type 0) : Type 0 where
  pub at : ℕ
  pub below : at < length entries
  pub unlinked : Unlinks at
  pub kept : (between other : ℕ) (step : StepOf Record) (answer : Answer Record) → at < between → TakesStep entries between other step answer → ¬ Hands step answer

-- After the stamp was read the other actor was read as outside, or in a later epoch.
pub record IsPassedAt (entries : List Entry) (actor stamped epoch other : ℕ) : Type 0 where
  pub at : ℕ
  pub after : stamped < at
  pub value : ℕ
  pub took : TakesStep entries at actor (Announce other) (Number value)
  pub gone : (value ≡ 0) ⊎ (epoch < value)

pub record IsStamped (entries : List Entry) (actor : ℕ) (Unlinks : ℕ → Type 0) (Hands : StepOf Record → Answer Record → Type 0) (epoch : ℕ) (passed : ℕ → Bool) : Type 0 where
  pub out : WasTakenOut entries Unlinks Hands
  pub at : ℕ
  pub after : out.at < at
  pub below : at < length entries
  pub took : TakesStep entries at actor Epoch (Number epoch)
  pub by : (other : ℕ) → passed other ≡ true → IsPassedAt entries actor at epoch other

abbrev pub IsInLimbo : List Entry → ℕ → (ℕ → Type 0) → (StepOf Record → Answer Record → Type 0) → LimboMark → Type 0
IsInLimbo entries actor Unlinks Hands Absent = ⊤
IsInLimbo entries actor Unlinks Hands Unstamped = WasTakenOut entries Unlinks Hands
IsInLimbo entries actor Unlinks Hands (Stamped epoch passed) = IsStamped entries actor Unlinks Hands epoch passed
