-- What an operation and its hand are after a step, from what its work or its sweep is.
use Rattle.std.proofs.Common.{◌≡◌, ◌<◌, ◌+◌, inl, ℕ, Option, Some, None, true, refl, sym, ap, ◌∙◌, arith}
use Rattle.op_machine.proofs.Words.{Limits, Answer, StepOf, Record, Knowledge, Recalled, Spares, IsSpentLast, left_at, one_round, with_errands, Hand, HoldsLimbo, IsToldOp}
use Rattle.op_machine.proofs.Words.{IsToldOpThere, Op, Shows, asked_by, wanted_of, has_begun, steps_left, sweep_left, IsToldOnThere, IsToldWith, asked_of, AreKept, Sweep}
use Rattle.bw_model.specs.declared.step.Answer.TheVariants.{Start}
use Rattle.epochs.specs.Limbo.{Limbo}
use Rattle.op_machine.specs.machine.Shows.{FitsLast, learn_last, recall_last, wanted_at}
use Rattle.op_machine.specs.machine.Sweeping.{IsSameWork, ObeysSweep, swept_by, with_limbo}
use Rattle.op_machine.specs.machine.States.{State, Begun}

-- nothing of the sweep is left then
pub nothing_left : (limits : Limits) (state : State) → has_begun state ≡ true → sweep_left limits None state ≡ 0
nothing_left limits Begun e = cc
nothing_left limits other e = refl

-- An operation that has begun has no sweep, asks for what its work asks for, and goes ahead as its work does.
module _ (old : Op) (had : Hand) (told : Answer Record) (begun : has_begun old.state ≡ true) where
  swept_first : (k : Knowledge) (o : Option Sweep) → HoldsLimbo old.task old.state had.limbo k o → o ≡ None
  swept_first k None holds = refl
  swept_first k (Some sweep) holds = let e = sym (ap has_begun holds.first) ∙ begun in cc

  pub left_is : (op : Op) (hand : Hand) (r : Recalled) → op.sweep ≡ None → has_begun op.state ≡ true
      → steps_left r op hand ≡ with_errands op.task.limits op.task.errands (left_at op.task.limits r hand.spares op.state)
  left_is op hand r none on = let zero : sweep_left op.task.limits op.sweep op.state ≡ 0 = rw none (nothing_left op.task.limits op.state on) in omega (arith, zero)

  module _ (k : Knowledge) (r : Recalled) (shows : Shows old had k r) where
    pub unswept : old.sweep ≡ None
    unswept = swept_first k old.sweep shows.limbo

    pub asks : wanted_of old had ≡ asked_of old had.spares
    asks = ap (λ (o : Option Sweep). asked_by o (asked_of old had.spares)) unswept

    pub fits_on : FitsLast old.task.limits k (wanted_of old had) told → FitsLast old.task.limits k (asked_of old had.spares) told
    fits_on fits = rw (← asks) fits

    pub kept_begun : AreKept old.task.limits old.task.actor had.limbo k.limbo
    kept_begun = rw unswept at shows.limbo

  pub told_begun : IsToldOp old had told → IsToldWith old had told
  told_begun is = record {
    told_on = record { k = is.k; r = is.r; works = is.shows.stands; fits = fits_on is.k is.r is.shows is.fits };
    kept = kept_begun is.k is.r is.shows;
  }

  pub told_alone : (is_there : ℕ → Record → Type 0) → IsToldOpThere is_there old had told → IsToldOp old had told
  told_alone is_there is = record { k = is.k; r = is.r; shows = is.shows; fits = is.fits }

  pub told_there : (is_there : ℕ → Record → Type 0) → IsToldOpThere is_there old had told → IsToldOnThere is_there old had.spares told
  told_there is_there is = record {
    k = is.k;
    r = is.r;
    works = is.shows.stands;
    fits = fits_on is.k is.r is.shows is.fits;
    there = rw (← (asks is.k is.r is.shows)) is.there;
  }

-- before the first step of the work the sweep alone asks
module _ (old mid : Op) (spares : Spares) (limbo now : Limbo) (told : Answer Record) (first : old.state ≡ Begun) (same : IsSameWork old mid) where
  abbrev had : Hand
  had = with_limbo spares limbo

  abbrev between : Hand
  between = with_limbo spares now

  pub sweep_asks : wanted_of old had ≡ swept_by old
  sweep_asks = ap (λ (state : State). asked_by old.sweep (wanted_at spares state)) first

  pub fits_swept : (k : Knowledge) → FitsLast old.task.limits k (wanted_of old had) told → FitsLast old.task.limits k (swept_by old) told
  fits_swept k fits = rw (← sweep_asks) fits

  pub fewer : (r : Recalled) (last : Option (StepOf Record)) (left rest : ℕ) → rest < left → IsSpentLast old.task.limits r last told left rest
  fewer r None left rest less = less
  fewer r (Some asked) left rest less = inl less

  pub left_first : (r : Recalled) → steps_left r old had ≡ with_errands old.task.limits old.task.errands (sweep_left old.task.limits old.sweep Begun + (one_round old.task.limits + 3))
  left_first r = rw first refl

  -- the sweep is over, so that the work begins
  module _ (over : ObeysSweep old limbo told mid now None) where
    pub asks_none : asked_of mid spares ≡ None
    asks_none = ap (wanted_at spares) (same.state ∙ first)

    module _ (k : Knowledge) (r : Recalled) (h : Shows old had k r) (f : FitsLast old.task.limits k (wanted_of old had) told) where
      abbrev pub then : Knowledge
      then = learn_last k (swept_by old) told

      abbrev pub recalled : Recalled
      recalled = recall_last r (swept_by old) told

      pub rests : (mid.sweep ≡ None) × Shows mid between then recalled
      rests = over k r spares h (fits_swept k f)

      pub starts : FitsLast mid.task.limits then (asked_of mid spares) Start
      starts = rw asks_none refl

      pub kept_after : AreKept mid.task.limits mid.task.actor now then.limbo
      kept_after = rw rests.0 at rests.1.limbo

    pub told_after : IsToldOp old had told → IsToldWith mid between Start
    told_after is = record {
      told_on = record { k = then is.k is.r is.shows is.fits; r = recalled is.k is.r is.shows is.fits; works = (rests is.k is.r is.shows is.fits).1.stands; fits = starts is.k is.r is.shows is.fits };
      kept = kept_after is.k is.r is.shows is.fits;
    }
