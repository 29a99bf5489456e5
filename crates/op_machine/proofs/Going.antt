-- How an operation goes on, from what its state makes of an answer and what its task makes of that.
use Rattle.op_machine.proofs.Words.{◌≡◌, ◌≤◌, inl, inr, ℕ, List, Option, Some, None, arith, refl, Limits, Answer, Record, Knowledge, Recalled, AreThere, Spares, IsSpentLast}
use Rattle.op_machine.proofs.Words.{with_errands, Hand, Op, StepsInRound, FitsLast, learn_last, recall_last}
use Rattle.bw_model.specs.declared.step.Step.{Step}
use Rattle.op_machine.specs.machine.Outcomes.{Comes, Entered, Faces, IsToldAt, Outcome}
use Rattle.op_machine.specs.machine.Works.{AsksOn, FollowsOutcome, IsToldChange, IsToldOn, IsToldOnThere, IsToldWith, TurnsInto, Works, asked_of}
use Rattle.op_machine.specs.machine.States.{State}
use Rattle.op_machine.specs.machine.States as at

-- what is told of an operation is told of its state
abbrev pub told_at : (op : Op) (spares : Spares) (told : Answer Record) → IsToldOn op spares told → IsToldAt op.state spares told
told_at op spares told is = record { task = op.task; k = is.k; r = is.r; stands = is.works; fits = is.fits }

pub told_alone : (is_there : ℕ → Record → Type 0) (op : Op) (spares : Spares) (told : Answer Record) → IsToldOnThere is_there op spares told → IsToldOn op spares told
told_alone is_there op spares told is = record { k = is.k; r = is.r; works = is.works; fits = is.fits }

pub told_change : (op : Op) (hand : Hand) (told : Answer Record) → IsToldWith op hand told → IsToldChange op.state hand told
told_change op hand told is = record { told_at = told_at op hand.spares told is.told_on; kept = is.kept }

-- the steps of errands come on top
spent_with : (limits : Limits) (r : Recalled) (last : Option (Step Record)) (told : Answer Record) (left rest : ℕ) (errands now : List (List ℕ)) (more : ℕ)
    → IsSpentLast limits r last told left rest → with_errands limits now more ≤ with_errands limits errands rest
    → IsSpentLast limits r last told (with_errands limits errands left) (with_errands limits now more)
spent_with limits r None told left rest errands now more spent few = omega (arith, spent, few)
spent_with limits r (Some asked) told left rest errands now more spent few = elim spent [
  | inl less ↦ inl (omega (arith, less, few))
  | inr paid ↦ inr (paid.0, omega (arith, few))
]

-- the answer to the entry
pub has_entered : (epoch : ℕ) (spares : Spares) (told : Answer Record) → TurnsInto (at.Enter epoch) spares told (at.Enter epoch) spares (Some Entered)
has_entered epoch spares told = record {
  comes = λ task k r h fits. let waits = h.0 in record {
    inside = refl;
    spare = record { room = waits.rests.spare.room; rest = waits.rests.spare.rest };
    unread = waits.unread;
    asked = record { going = waits.asked.going; unlinked = waits.asked.unlinked };
  };
  leaves = λ task k r h fits. inl (omega arith);
}

-- The state has made this of the answer.
module _ (old : Op) (had has : Spares) (told : Answer Record) (is : IsToldOn old had told) (state : State) (outcome : Option Outcome)
    (makes : TurnsInto old.state had told state has outcome) where
  abbrev went : Op
  went = record old { state = state }

  abbrev last : Option (Step Record)
  last = asked_of old had

  abbrev errands : List (List ℕ)
  errands = old.task.errands

  -- it goes on,
  pub goes_on : outcome ≡ None → StepsInRound old.task old.state told state → AsksOn old had told went has
  goes_on on steps = record {
    works = λ k r works fits. (here k r works fits).0;
    spends =
        λ k r works fits. spent_with old.task.limits r last told _ _ errands errands _
        (rw on at (makes.leaves old.task k r works fits))
        (omega arith);
    asks = (here is.k is.r is.works is.fits).1;
    same = record { limits = refl; actor = refl; command = refl };
    sweep = refl;
    steps = steps;
  }
    where
      here : (k : Knowledge) (r : Recalled) → Works old had k r → FitsLast old.task.limits k last told → Comes old.task k r last told state has None
      here k r works fits = rw on at (makes.comes old.task k r works fits)

  -- or has come to something
  module _ (to : Outcome) (come : outcome ≡ Some to) where
    faces : (k : Knowledge) (r : Recalled) → Works old had k r → FitsLast old.task.limits k last told → Faces old.task has (learn_last k last told) (recall_last r last told) to
    faces k r works fits = rw come at (makes.comes old.task k r works fits)

    pub follows : (new : Op) → FollowsOutcome went has to new → StepsInRound old.task old.state told new.state → AsksOn old had told new has
    follows new after steps = record {
      works = λ k r works fits. after.stands _ _ (faces k r works fits);
      spends =
          λ k r works fits. spent_with old.task.limits r last told _ _ errands new.task.errands _
          (rw come at (makes.leaves old.task k r works fits))
          (after.few _ _ (faces k r works fits));
      asks = after.asks;
      same = after.same;
      sweep = after.sweep;
      steps = steps;
    }

-- Something is known that it faces then, and what was read is there.
pub faced : (is_there : ℕ → Record → Type 0) (old : Op) (had has : Spares) (told : Answer Record) → IsToldOnThere is_there old had told
    → (state : State) (outcome : Option Outcome) → TurnsInto old.state had told state has outcome → (to : Outcome) → outcome ≡ Some to
    → (k : Knowledge) × (r : Recalled) × Faces old.task has k r to × AreThere is_there k
faced is_there old had has told is state outcome makes to come =
    let alone = told_alone is_there old had told is in
    (learn_last is.k (asked_of old had) told, recall_last is.r (asked_of old had) told, faces old had has told alone state outcome makes to come is.k is.r is.works is.fits, is.there)
