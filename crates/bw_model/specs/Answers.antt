-- Which kind of answer it is, and what is told as an answer.
use Rattle.bw_model.specs.declared.step.Answer.{Answer}
use Rattle.bw_model.specs.declared.step.Answer.TheVariants.{Number, Content, Whether}
use Rattle.bw_model.specs.declared.step.Answer.TheVariants as answer
use Rattle.bw_model.specs.declared.step.Told.{Told}
use Rattle.bw_model.specs.declared.step.Told.TheVariants as told

abbrev pub TellsNumber : Told → Type 0
TellsNumber (told.Number number) = Unit {0}
TellsNumber told = ⊥

module _ {R : Type 0} where
  abbrev pub IsNumber : Answer R → Type 0
  IsNumber (Number n) = Unit {0}
  IsNumber answer = ⊥

  abbrev pub IsContent : Answer R → Type 0
  IsContent (Content x) = Unit {0}
  IsContent answer = ⊥

  abbrev pub IsWhether : Answer R → Type 0
  IsWhether (Whether b) = Unit {0}
  IsWhether answer = ⊥

  -- what is told, as an answer
  abbrev pub answer_of : Told → Answer R
  answer_of told.Start = answer.Start
  answer_of (told.Number number) = answer.Number number
  answer_of (told.Whether whether) = answer.Whether whether
  answer_of told.Done = answer.Done
