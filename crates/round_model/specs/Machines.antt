-- What is said alike of each machine that wants steps and is told their answers.
use Rattle.std.specs.Prelude.{◌≡◌, ℕ, Some}
use Rattle.tree_limits.specs.declared.limits.Limits.{Limits}
use Rattle.bw_model.specs.declared.step.Step.{Step as StepOf}
use Rattle.bw_model.specs.declared.step.Answer.{Answer}
use Rattle.deltas.specs.declared.record.Record.{Record}
use Rattle.traces.specs.discipline.Fitting.{Fits}
use Rattle.traces.specs.discipline.Knowledge.{Knowledge, learn}
use Rattle.traces.specs.discipline.Recalled.{Recalled}

-- of where a machine stands: its tree's limits, the step that it has asked for, and what its actor knows and recalls
pub record Machine (At : Type 0) : Type 1 where
  pub limits : At → Limits
  pub wanted : At → StepOf Record
  pub Shows : At → Knowledge → Recalled → Type 0

-- Something is known that the machine shows, and the answer fits it.
pub record IsTold {At : Type 0} (machine : Machine At) (at : At) (told : Answer Record) : Type 0 where
  pub k : Knowledge
  pub r : Recalled
  pub shows : machine.Shows at k r
  pub fits : Fits (machine.limits at) k (machine.wanted at) told

-- The records that were read are there.
abbrev pub AreThere : (ℕ → Record → Type 0) → Knowledge → Type 0
AreThere is_there k = (row : ℕ) (content : Record) → k.read.seen row ≡ Some content → is_there row content

-- As `IsTold`, and what was read then is there.
pub record IsToldThere (is_there : ℕ → Record → Type 0) {At : Type 0} (machine : Machine At) (at : At) (told : Answer Record) : Type 0 where
  pub k : Knowledge
  pub r : Recalled
  pub shows : machine.Shows at k r
  pub fits : Fits (machine.limits at) k (machine.wanted at) told
  pub there : AreThere is_there (learn k (machine.wanted at) told)
