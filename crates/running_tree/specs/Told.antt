-- What a step answers, where a record that was read stays where it lies, and the reply stands in a place of its own.
use Rattle.std.specs.Prelude.{◌≡◌, ◌≢◌, ℕ, List, Bool, true, false, Option, Some, None}
use Rattle.tree_limits.specs.declared.limits.Limits.{Limits}
use Rattle.bw_model.specs.Answers.{answer_of}
use Rattle.bw_model.specs.declared.command.Reply.{Reply}
use Rattle.bw_model.specs.declared.step.Answer.TheVariants.{Content}
use Rattle.bw_model.specs.declared.step.Step.{Step}
use Rattle.bw_model.specs.declared.step.Step.TheVariants.{Leave, Row}
use Rattle.deltas.specs.declared.record.Record.{Record}
use Rattle.traces.specs.declared.trace.Entry.{Entry}
use Rattle.record_slots.specs.Spells.{HasSpelling}
use Rattle.row_search.specs.Begins.{Begins}
use Rattle.table_rule.specs.Steps.{Took}
use Rattle.running_tree.specs.Runs.{IsLawfulRun}
use Rattle.running_tree.specs.declared.taking.Taken.{Taken}
use Rattle.running_tree.specs.declared.taking.Taken.TheVariants.{Leaving, First, Told}

-- A record was read: this is the word with which its row begins, whatever form it has there.
abbrev pub ReadsFirst : (Limits → List Entry → Type 0) → Limits → ℕ → List Entry → ℕ → ℕ → List Entry → Type 0
ReadsFirst law limits actor seen row word later =
    (content : Record) × HasSpelling content × Begins word content × Took law limits actor seen None (Row row) (Content content) None later

-- The actor took the step, of which its seat is told: of a record that was read, the row and the first word. A leave is still to be taken.
abbrev pub HasTaken : Limits → ℕ → List Entry → Step Record → Taken → List Entry → Type 0
HasTaken limits actor seen step Leaving later = step ≡ Leave
HasTaken limits actor seen step (First row word) later = (step ≡ Row row) × ReadsFirst IsLawfulRun limits actor seen row word later
HasTaken limits actor seen step (Told told) later = (step ≢ Leave) × Took IsLawfulRun limits actor seen None step (answer_of told) None later

-- the reply in its place, if the operation is done
abbrev pub reply_if : Bool → Reply → Option Reply
reply_if true reply = Some reply
reply_if false reply = None
