-- An operation in its place: the step that it wants, and what it makes of what it is told.
use Rattle.std.specs.Prelude.{IsSome}
use Rattle.bw_model.specs.declared.step.Answer.{Answer}
use Rattle.bw_model.specs.declared.step.Step.{Step as StepOf}
use Rattle.deltas.specs.declared.record.Record.{Record}
use Rattle.traces.specs.discipline.Knowledge.{Knowledge}
use Rattle.traces.specs.discipline.Recalled.{Recalled}
use Rattle.op_machine.specs.machine.GoesLeft.{GoesLeft}
use Rattle.op_parts.specs.Hands.{Hand}
use Rattle.op_machine.specs.machine.Ops.{Goes, Obeys, Op, Shows, wanted_of}
use Rattle.op_machine.specs.machine.RoundSteps.{StepsInRound}
use Rattle.op_machine.specs.machine.Shows.{FitsLast, learn_last, recall_last}
use Rattle.op_machine.specs.machine.Spending.{Spends}
use Rattle.op_machine.specs.machine.Tasks.{IsSameTask}
use Rattle.op_machine.specs.machine.Wants.{Step}

-- Something is known that the operation shows.
abbrev pub IsOpShown : Op → Hand → Type 0
IsOpShown op hand = (k : Knowledge) × (r : Recalled) × Shows op hand k r

-- Whatever is known that the operation shows: it wants this step, and its actor may take it.
abbrev pub Wants : Op → Hand → StepOf Record → Type 0
Wants op hand asked = (k : Knowledge) (r : Recalled) → Shows op hand k r → Goes k r op hand asked

-- Whatever is known that the operation showed, and that the answer fits: it shows what is known then.
abbrev pub ShowsOn : Op → Hand → Answer Record → Op → Hand → Type 0
ShowsOn old had told new has =
    (k : Knowledge) (r : Recalled) → Shows old had k r → FitsLast old.task.limits k (wanted_of old had) told
    → Shows new has (learn_last k (wanted_of old had) told) (recall_last r (wanted_of old had) told)

-- The operation has taken the answer, and wants a step: whichever it wants, it obeys by it, with fewer steps left, at the same task. In a
-- round it has made of the answer what the round makes of it; where it meets a removed page, it goes to the left of that page.
pub record Takes (old : Op) (had : Hand) (told : Answer Record) (new : Op) (has : Hand) : Type 0 where
  pub shows : ShowsOn old had told new has
  pub asks : IsSome (wanted_of new has)
  pub obeys : (asked : StepOf Record) → Wants new has asked → Obeys old had told new has (Step asked)
  pub spends : (asked : StepOf Record) → Spends old had told new has (Step asked)
  pub same : IsSameTask old.task new.task
  pub steps : StepsInRound old.task old.state told new.state
  pub left : GoesLeft old.task old.state told new.state
