-- What the steps of a round leave it, on the way to the key.
use Rattle.round_model.proofs.Words.{◌≡◌, ◌<◌, ◌++◌, ◌==◌, ◌⊎◌, inl, inr, ℕ, zero, suc, List, [], ◌∷◌, Bool, true, false, Some, None, refl, arith, IsFalse, IsTrue, eq-eqb, Limits}
use Rattle.round_model.proofs.Words.{Answer, Record, replaced_at, next_row, is_removed, Fits, FitsRow, Knowledge, learn, learn_slot, Recalled, is_lower, recall, Version, IsAlive, IsGone}
use Rattle.round_model.proofs.Words.{IsInHand, NamesAt}
use Rattle.bw_model.specs.declared.step.Step.TheVariants as step
use Rattle.bw_model.specs.declared.step.Answer.TheVariants as answer
use Rattle.round_model.specs.Visits.{Slot, Row, FindsHead, Completes, Continues, Visit, at, to_page, wanted_step}
use Rattle.round_model.specs.Walks.{HasArrived, IsNamedNow, IsReached, IsSeeking}
use Rattle.round_model.proofs.Meeting.{names_meets}
use Rattle.round_model.proofs.Removals.{not_passed}
use Rattle.round_model.proofs.Visiting.{back, row_below, there}
use Rattle.round_model.proofs.Walking.{on_base, on_row, on_slot, onward, recalled_head}

replaced_true : (f : ℕ → Bool) (i : ℕ) → replaced_at i true f i ≡ true
replaced_true f i = let e : (i == i) ≡ true = eq-eqb i i refl in rw e refl

-- slot 0 was read
pub seeks_root : (limits : Limits) (way : List ℕ → Bool) (beyond : Bool) (k : Knowledge) (r : Recalled) (pid : ℕ) → IsTrue (way []) → Fits limits k (step.Slot 0) (answer.Number pid) → k.inside ≡ true
    → IsSeeking limits way beyond (learn k (step.Slot 0) (answer.Number pid)) (recall r (step.Slot 0) (answer.Number pid)) (to_page limits pid) 0 [] []
seeks_root limits way beyond k r pid lowest fits inside = record {
  on_way = record {
    shows = record { inside = inside; page = fits.0; below = fits.1; head = tt; stands = inl (replaced_true k.read.roots pid) };
    same = refl;
    bare = refl;
    visited = refl;
    recalled = tt;
    expected = inl (replaced_true k.read.roots pid, refl, refl);
    distinct = (fits.0, fits.1, tt, tt);
    past = tt;
    rooted = refl;
    removed = tt;
    lowest = tt;
    kept = λ page none. absurd none;
  };
  passing = lowest;
  named = λ here. inl (replaced_true k.read.roots pid);
  fresh = λ here. refl;
}

-- a visit goes on
module _ (limits : Limits) (way : List ℕ → Bool) (beyond : Bool) (k : Knowledge) (r : Recalled) (visit : Visit) (level : ℕ) (low : List ℕ) (earlier : List ℕ) where
  slot_roots : (pid n : ℕ) → 0 < pid → (learn_slot pid n k).read.roots ≡ k.read.roots
  slot_roots zero n some = absurd (omega (arith, some))
  slot_roots (suc pid) zero some = refl
  slot_roots (suc pid) (suc n) some = refl

  recall_records : (pid n : ℕ) → 0 < pid → (recall r (step.Slot pid) (answer.Number n)).walk.records ≡ r.walk.records
  recall_records zero n some = absurd (omega (arith, some))
  recall_records (suc pid) n some = refl

  named_on_slot : (n : ℕ) → 0 < visit.pid → IsNamedNow k r visit.pid → IsNamedNow (learn_slot visit.pid n k) (recall r (step.Slot visit.pid) (answer.Number n)) visit.pid
  named_on_slot n some h = rw (slot_roots visit.pid n some, recall_records visit.pid n some) h

  fresh_on_slot : (pid n : ℕ) → 0 < pid → r.walk.removed ≡ false → (recall r (step.Slot pid) (answer.Number n)).walk.passed ≡ false
  fresh_on_slot zero n some none = absurd (omega (arith, some))
  fresh_on_slot (suc pid) n some none = none

  pub seeks_slot : (row : ℕ) → 0 < row → row < visit.limits.rows → IsSeeking limits way beyond k r (at visit Slot) level low earlier
      → IsSeeking limits way beyond (learn k (step.Slot visit.pid) (answer.Number row)) (recall r (step.Slot visit.pid) (answer.Number row))
      (record visit { part = []; state = Row row row }) level low earlier
  seeks_slot row linked few h = record {
    on_way = on_slot limits k r visit level low earlier row linked few h.on_way;
    passing = h.passing;
    named = λ here.
        named_on_slot row h.on_way.shows.page (h.named here);
    fresh = λ here. fresh_on_slot visit.pid row h.on_way.shows.page (h.fresh here);
  }

  module _ (row : ℕ) (content : Record) (fits : FitsRow limits k row content) where
    abbrev now : Knowledge
    now = learn k (step.Row row) (answer.Content content)

    abbrev walked : Recalled
    walked = recall r (step.Row row) (answer.Content content)

    pub seeks_row : (head under : ℕ) → next_row content ≡ Some under → IsSeeking limits way beyond k r (at visit (Row head row)) level low earlier
        → IsSeeking limits way beyond now walked (record visit { part = visit.part ++ content ∷ []; state = Row head under }) level low earlier
    seeks_row head under more h = record {
      on_way = on_row limits k r visit level low earlier row content fits head under more h.on_way;
      passing = h.passing;
      named = λ here. elim (h.named here) [ inl root ↦ inl root | inr met ↦ inr (inr met) ];
      fresh = λ here. not_passed (is_lower content r.walk) r.walk.passed (h.fresh here);
    }

    -- the page was read whole
    pub arrived : (version : Version) → version.pid ≡ visit.pid → version.chain ≡ visit.part ++ content ∷ [] → next_row content ≡ None
        → IsSeeking limits way beyond k r (at visit (Row version.head row)) level low earlier
        → HasArrived limits k now walked version level low earlier
    arrived version pid made last h = on_base limits k r visit level low earlier row content fits version pid made last h.on_way

-- the same by what a visit makes of an answer
module _ (limits : Limits) (way : List ℕ → Bool) (beyond : Bool) (k : Knowledge) (r : Recalled) (visit : Visit) (level : ℕ) (low : List ℕ) (earlier : List ℕ)
    (told : Answer Record) (h : IsSeeking limits way beyond k r visit level low earlier) (f : Fits limits k (wanted_step visit) told) where
  abbrev Seeks : Visit → Answer Record → Type 0
  Seeks v x = IsSeeking limits way beyond k r v level low earlier

  abbrev FitsAt : Visit → Answer Record → Type 0
  FitsAt v x = Fits limits k (wanted_step v) x

  pub seeks_next : (new : Visit) → FindsHead visit told new ⊎ Continues visit told new
      → IsSeeking limits way beyond (learn k (wanted_step visit) told) (recall r (wanted_step visit) told) new level low earlier
  seeks_next new moves =
      let P : Visit → Answer Record → Type 0 = λ v x. IsSeeking limits way beyond (learn k (wanted_step v) x) (recall r (wanted_step v) x) new level low earlier in
      elim moves [
        | inl b ↦ back visit P Slot (answer.Number b.row) told b.asked b.is (rw b.goes (seeks_slot limits way beyond k r visit level low earlier b.row b.some
            (rw h.on_way.same (row_below limits k visit.pid b.row h.on_way.shows.page (there visit FitsAt Slot (answer.Number b.row) told b.asked b.is f)))
            (there visit Seeks Slot (answer.Number b.row) told b.asked b.is h)))
        | inr b ↦
            let fits = there visit FitsAt (Row b.head b.row) (answer.Content b.content) told b.asked b.is f in
            back visit P (Row b.head b.row) (answer.Content b.content) told b.asked b.is
            (rw b.goes (seeks_row limits way beyond k r visit level low earlier b.row b.content fits b.head b.under b.more
            (there visit Seeks (Row b.head b.row) (answer.Content b.content) told b.asked b.is h)))
      ]

  pub fresh_next : (version : Version) → Completes visit told version → IsFalse beyond → (recall r (wanted_step visit) told).walk.passed ≡ false
  fresh_next version b here =
      back visit (λ v x. (recall r (wanted_step v) x).walk.passed ≡ false) (Row version.head b.row) (answer.Content b.content) told b.asked b.is
      (not_passed (is_lower b.content r.walk) r.walk.passed ((there visit Seeks (Row version.head b.row) (answer.Content b.content) told b.asked b.is h).fresh here))

  pub arrived_next : (version : Version) → Completes visit told version → HasArrived limits k (learn k (wanted_step visit) told) (recall r (wanted_step visit) told) version level low earlier
  arrived_next version b =
      let fits = there visit FitsAt (Row version.head b.row) (answer.Content b.content) told b.asked b.is f in
      back visit (λ v x. HasArrived limits k (learn k (wanted_step v) x) (recall r (wanted_step v) x) version level low earlier) (Row version.head b.row) (answer.Content b.content) told b.asked b.is
      (arrived limits way beyond k r visit level low earlier b.row b.content fits version b.pid b.chain b.last
      (there visit Seeks (Row version.head b.row) (answer.Content b.content) told b.asked b.is h))

-- a page was read whole
module _ (limits : Limits) (k now : Knowledge) (r : Recalled) (version : Version) (level : ℕ) (low : List ℕ) (earlier : List ℕ) (h : HasArrived limits k now r version level low earlier) where
  pub hand : IsInHand limits now version
  hand = rw h.same at h.arrives.in_hand

  pub living : is_removed version.chain ≡ false → IsAlive limits now r version
  living alive = record {
    in_hand = hand;
    alive = alive;
    recalled = (version.is_row.0, recalled_head now r (version.pid ∷ earlier) version.pid version.head h.recalled (inl refl) hand.seen.head);
  }

  pub is_gone : is_removed version.chain ≡ true → IsGone limits now version
  is_gone gone = record { in_hand = hand; gone = gone }

  pub reached : (way : List ℕ → Bool) → IsTrue (way low) → IsReached limits way version
  reached way passing = record { reached = rw h.is_low passing; names = hand.sound.names }

  -- the round goes on to a page that is named
  pub seeks_on : (way : List ℕ → Bool) (beyond : Bool) (page new_level : ℕ) (new_low : List ℕ) → NamesAt version.chain page new_level new_low
      → is_removed version.chain ≡ false → IsTrue (way new_low) → (IsFalse beyond → r.walk.passed ≡ false)
      → IsSeeking limits way beyond now r (to_page limits page) new_level new_low (version.pid ∷ earlier)
  seeks_on way beyond page new_level new_low names alive passing fresh = record {
    on_way = onward limits k now r version level low earlier h page new_level new_low names alive;
    passing = passing;
    named = λ here. inr (h.kept page (names_meets version.chain page new_level new_low names));
    fresh = λ here. rw (fresh here, alive) at h.removed;
  }
