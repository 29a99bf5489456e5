-- The rows whose names an actor has learnt.
use Rattle.std.specs.Prelude.{◌≡◌, ◌<◌, ℕ, List, Some, ◌⊎◌}
use Rattle.bw_model.specs.declared.step.Step.TheVariants.{Slot, Row, Leave}
use Rattle.bw_model.specs.declared.step.Answer.{Answer}
use Rattle.bw_model.specs.declared.step.Answer.TheVariants.{Number, Content}
use Rattle.deltas.specs.declared.record.Record.{Record}
use Rattle.deltas.specs.Records.{next_row}
use Rattle.traces.specs.declared.trace.Entry.{Entry}
use Rattle.traces.specs.trace.Trace.{TakesStep}

-- Step n shows the actor the row: a slot that holds it, or a record that has it as next.
abbrev pub ShowsRow : List Entry → ℕ → ℕ → ℕ → Type 0
ShowsRow entries n actor row = ((pid : ℕ) × (0 < pid) × TakesStep entries n actor (Slot pid) (Number row))
    ⊎ ((above : ℕ) × (content : Record) × TakesStep entries n actor (Row above) (Content content) × (next_row content ≡ Some row))

-- The actor has been shown the row, and has not left since.
abbrev pub HasLearnt : List Entry → ℕ → ℕ → Type 0
HasLearnt entries actor row = (n : ℕ) × ShowsRow entries n actor row × ((later : ℕ) (answer : Answer Record) → n < later → ¬ TakesStep entries later actor Leave answer)
