-- Each record that is read is the one that was there when its row's name was learnt.
use Rattle.std.specs.Prelude.{◌≡◌, ◌<◌, ℕ, List, Bool, true, false, IsFalse}
use Rattle.tree_limits.specs.declared.limits.Limits.{Limits}
use Rattle.bw_model.specs.declared.step.Step.{Step as StepOf}
use Rattle.bw_model.specs.declared.step.Step.TheVariants.{Slot, Row, Place, Exchange, TakeRow, Enter, Leave, ReuseRows}
use Rattle.bw_model.specs.declared.step.Answer.{Answer}
use Rattle.bw_model.specs.declared.step.Answer.TheVariants.{Whether}
use Rattle.deltas.specs.declared.record.Record.{Record}
use Rattle.traces.specs.declared.trace.Entry.{Entry}
use Rattle.traces.specs.discipline.Learnt.{ShowsRow}
use Rattle.tree_limits.specs.Words.{is_among}
use Rattle.traces.specs.trace.Trace.{TakesStep, memory_at}

-- The step may change what stands in the row; a take that got nothing doesn't.
abbrev pub Disturbs : StepOf Record → Answer Record → ℕ → Type 0
Disturbs (Place row content) answer r = row ≡ r
Disturbs (TakeRow row) answer r = (answer ≡ Whether true) × (row ≡ r)
Disturbs (ReuseRows word bits) answer r = is_among word bits r ≡ true
Disturbs _ answer r = ⊥

-- whether a step goes beyond the epoch, the announced epochs and the free bits
abbrev pub touches_pages : StepOf Record → Bool
touches_pages (Slot pid) = true
touches_pages (Row row) = true
touches_pages (Place row content) = true
touches_pages (Exchange slot old new) = true
touches_pages _ = false

module _ (entries : List Entry) where
  -- The actor was shown the row at a step m before n; between them it has not entered or left, and no step disturbs the row.
  pub record KnowsRow (n actor row : ℕ) : Type 0 where
    pub at : ℕ
    pub before : at < n
    pub shown : ShowsRow entries at actor row
    pub inside : (later epoch : ℕ) (answer : Answer Record) → at < later → later < n → ¬ TakesStep entries later actor (Enter epoch) answer × ¬ TakesStep entries later actor Leave answer
    pub undisturbed : (later other : ℕ) (step : StepOf Record) (answer : Answer Record) → at < later → later < n → TakesStep entries later other step answer → ¬ Disturbs step answer row

-- Each record that is read is one whose row the actor knows; outside the epochs an actor touches no page.
pub record IsFaithful (limits : Limits) (entries : List Entry) : Type 0 where
  pub known : (n actor row : ℕ) (answer : Answer Record) → TakesStep entries n actor (Row row) answer → KnowsRow entries n actor row
  pub outside : (n actor : ℕ) (step : StepOf Record) (answer : Answer Record) → TakesStep entries n actor step answer → (memory_at limits entries n).announced actor ≡ 0 → IsFalse (touches_pages step)
