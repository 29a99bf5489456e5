-- What the definitions make of an insert and a lookup that meet a removed leaf, or its empty slot.
use Rattle.op_machine.proofs.Words.{◌≡◌, inl, inr, ℕ, Option, Some, None, refl, ap, arith, Answer, Record, WriteGoal, ReadGoal, Descent, Finds, Moves, Sees, writing}
use Rattle.op_machine.proofs.Words.{WriteRound, StepsInRound, new_leaf, small}
use Rattle.bw_model.specs.declared.step.Answer.TheVariants.{Content, Number}
use Rattle.round_model.specs.Courses as goal
use Rattle.round_model.specs.ReadGoals as read_goal
use Rattle.round_model.specs.Visits.{Sight, Empty, Whole, to_page}
use Rattle.round_model.specs.WriteEnds.{WriteEnd, Again}
use Rattle.op_machine.specs.machine.GoesLeft.{GoesLeft, MeetsReading, MeetsWriting, first_read, first_write}
use Rattle.op_machine.specs.machine.Meeting.{before_base, before_slot, inserting, looking, reading_down, reading_left, removed_version, writing_down, writing_left}
use Rattle.op_machine.specs.machine.States.{State, Read, Write}

insert_meets : MeetsWriting (writing_down before_base) (Content new_leaf) removed_version
insert_meets = record {
  whole = record { visit = _; next = to_page small 2; asked = refl; responds = record { row = 2; content = new_leaf; asked = refl; is = refl; last = refl; pid = refl; chain = refl } };
  seeks = tt;
  gone = refl;
}

lookup_meets : MeetsReading (reading_down before_base) (Content new_leaf) removed_version
lookup_meets = record {
  whole = record { visit = _; next = to_page small 2; asked = refl; responds = record { row = 2; content = new_leaf; asked = refl; is = refl; last = refl; pid = refl; chain = refl } };
  gone = refl;
}

pub insert_turns : (new : State) → GoesLeft inserting (Write (writing_down before_base)) (Content new_leaf) new → new ≡ Write writing_left
insert_turns new left = left removed_version insert_meets

pub lookup_turns : (new : State) → GoesLeft looking (Read (reading_down before_base)) (Content new_leaf) new → new ≡ Read reading_left
lookup_turns new left = (left removed_version lookup_meets).leaf tt refl

-- where a state's round goes
abbrev write_goal : State → WriteGoal
write_goal (Write round) = round.goal
write_goal other = goal.Seek

abbrev read_goal_of : State → ReadGoal
read_goal_of (Read round) = round.goal
read_goal_of other = read_goal.Seek

pub insert_not_anew : GoesLeft inserting (Write (writing_down before_base)) (Content new_leaf) (Write (first_write inserting)) → ⊥
insert_not_anew left = let clash : goal.Seek ≡ goal.Left 2 = ap write_goal (insert_turns _ left) in cc

pub lookup_not_anew : GoesLeft looking (Read (reading_down before_base)) (Content new_leaf) (Read (first_read looking)) → ⊥
lookup_not_anew left = let clash : read_goal.Seek ≡ read_goal.Left removed_version = ap read_goal_of (lookup_turns _ left) in cc

-- an empty slot ends the round
abbrev number_of : Answer Record → ℕ
number_of (Number n) = n
number_of other = 0

abbrev at_slot : WriteRound
at_slot = writing_down before_slot

seen_empty : (next : WriteRound) (end : Option WriteEnd) (sight : Sight) → Finds (writing.way at_slot) (Number 0) sight → Sees writing at_slot sight next end → end ≡ Some Again
seen_empty next end Empty finds sees = sees
seen_empty next end (Whole version) finds sees = let clash : Number 0 ≡ Content finds.responds.content = finds.responds.is in cc

goes_no_further : (next : Descent) → Moves (writing.way at_slot) (Number 0) next None → ⊥
goes_no_further next moves = elim moves [
  | inl starts ↦ (let clash = starts.asked in cc)
  | inr visits ↦ elim visits.responds [
    | inl head ↦ (let zero : 0 ≡ head.row = ap number_of head.is in omega (arith, zero))
    | inr on ↦ (let clash : Number 0 ≡ Content on.content = on.is in cc)
  ]
]

pub empty_anew : (new : State) → StepsInRound inserting (Write at_slot) (Number 0) new → new ≡ Write (first_write inserting)
empty_anew new steps = elim steps.responds [
  | inl way ↦ absurd (goes_no_further (writing.way steps.next) way.on)
  | inr from ↦ rw (seen_empty steps.next steps.end from.sight from.finds from.sees) at steps.goes
]
