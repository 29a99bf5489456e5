-- A reader's rounds in one memory, which nobody changes meanwhile.
use Rattle.std.specs.Prelude.{◌≢◌, ◌<◌, ℕ, List, [], ◌∷◌, length, Some, ⊤}
use Rattle.bw_model.specs.declared.step.Answer.{Answer}
use Rattle.deltas.specs.Memory.{Memory}
use Rattle.deltas.specs.declared.record.Record.{Record}
use Rattle.traces.specs.trace.Steps.{IsAnswer}
use Rattle.round_model.specs.ReadEnds.{Again}
use Rattle.round_model.specs.ReadRounds.{ReadRound, wanted_step}
use Rattle.op_machine.specs.machine.RoundSteps.{StepsReading}
use Rattle.op_machine.specs.machine.States.{State, Read}
use Rattle.op_machine.specs.machine.Tasks.{Task}

-- The memory answers the step that the round wants, and the operation comes to this with the answer.
pub record ReadsIn (memory : Memory) (task : Task) (round : ReadRound) (new : State) : Type 0 where
  pub answer : Answer Record
  pub told : IsAnswer memory (wanted_step round) answer
  pub steps : StepsReading task round answer new

-- These are what a reader's round becomes, step after step; a further round, too, where one begins.
abbrev pub IsReaderRun : Memory → Task → ReadRound → List ReadRound → Type 0
IsReaderRun memory task round [] = ⊤
IsReaderRun memory task round (next ∷ rounds) = ReadsIn memory task round (Read next) × IsReaderRun memory task next rounds

-- where a run has come to
abbrev pub last_round : ReadRound → List ReadRound → ReadRound
last_round round [] = round
last_round round (next ∷ rounds) = last_round next rounds

-- Each run from the round on is shorter than this, so that with the step after which it is to leave the reader takes at most so many.
pub record EndsWithin (memory : Memory) (task : Task) (round : ReadRound) (steps : ℕ) : Type 0 where
  pub short : (rounds : List ReadRound) → IsReaderRun memory task round rounds → length rounds < steps

-- On no run from the round on does a round end because a page that was named isn't there, or because it is lost: none begins anew from the root.
pub record FindsEach (memory : Memory) (task : Task) (round : ReadRound) : Type 0 where
  pub finds : (rounds : List ReadRound) (new : State) → IsReaderRun memory task round rounds → (last : ReadsIn memory task (last_round round rounds) new) → last.steps.end ≢ Some Again
