-- A writer's pages in hand, while other pages are read.
use Rattle.round_model.proofs.Words.{◌≡◌, ◌≢◌, ◌<◌, ◌++◌, ◌⊎◌, inl, inr, ℕ, zero, suc, List, [], ◌∷◌, Bool, Option, Some, None, refl, sym, ap, ◌∙◌, false, true, arith, IfSome, IsFalse, IsTrue, ⊤}
use Rattle.round_model.proofs.Words.{eqb_tells, IfSome_then, Limits, Answer, Record, next_row, level_in, Fits, FitsRow, Knowledge, learn, learn_slot, IsUnread, Recalled, is_lower, recall}
use Rattle.round_model.proofs.Words.{IsAfter, Version, HasArrived, IsAmongPids, IsLosingTerm, IsMissing, KeepsToWrite, is_cutting, write_way, IsBased, IsLed, IsLeftOf, IsKept, VisitsToWrite}
use Rattle.round_model.proofs.Words.{SeeksLeaf}
use Rattle.bw_model.specs.declared.step.Step.TheVariants as step
use Rattle.bw_model.specs.declared.step.Answer.TheVariants as answer
use Rattle.round_model.specs.Visits.{VisitState, Slot, Row, FindsHead, Completes, Continues, Visit, at, wanted_step}
use Rattle.round_model.specs.Courses.{WriteGoal, Seek, Left, Merge, Unterm}
use Rattle.round_model.proofs.Holding.{before_slot, in_hand_row, in_hand_slot, slot_before}
use Rattle.round_model.proofs.Removals.{not_passed}
use Rattle.round_model.proofs.Seeking.{arrived, seeks_row, seeks_slot}
use Rattle.round_model.proofs.Visiting.{back, row_below, there}

-- a page that is none of these isn't one that is among them
pub differs : (page other : ℕ) (others : List ℕ) → IsUnread page others → IsAmongPids other others → other ≢ page
differs page other [] new among e = among
differs page other (first ∷ others) new among e = elim among [
  | inl here ↦ new.0 (sym e ∙ here)
  | inr there ↦ differs page other others new.1 there e
]

-- what has a page among it isn't empty
pub some_among : (other : ℕ) (others : List ℕ) → IsAmongPids other others → others ≡ [] → ⊥
some_among other [] among e = among
some_among other (first ∷ others) among e = cc

-- the parent, once the page was read whole
pub record LiesAbove (limits : Limits) (now : Knowledge) (version : Version) (earlier : List ℕ) (parent : Version) : Type 0 where
  pub kept : IsKept limits now parent earlier
  pub up : level_in parent.chain ≡ suc (level_in version.chain)
  pub after : IsAfter now parent version

-- by the goal, once the page was read whole
abbrev pub Passed : Limits → List ℕ → ℕ → Knowledge → Knowledge → ℕ → List ℕ → WriteGoal → Type 0
Passed limits key floor k now pid earlier Seek = ⊤
Passed limits key floor k now pid earlier (Left removed) = IsMissing limits k key floor removed (pid ∷ earlier) × IsMissing limits now key floor removed (pid ∷ earlier)
Passed limits key floor k now pid earlier (Merge left) = IsKept limits now left earlier
Passed limits key floor k now pid earlier (Unterm parent left) = IsLosingTerm limits now earlier parent left

-- A page was read whole, on the way of the goal.
pub record HasReached (limits : Limits) (key : List ℕ) (floor : ℕ) (splits : Bool) (goal : WriteGoal) (parent left : Option Version) (k now : Knowledge) (r : Recalled)
    (version : Version) : Type 0 where
  pub level : ℕ
  pub low : List ℕ
  pub earlier : List ℕ
  pub arrives : HasArrived limits k now r version level low earlier
  pub passing : IsTrue (write_way goal key low)
  pub fresh : IsFalse (is_cutting goal) → r.walk.passed ≡ false
  pub above : IfSome parent (LiesAbove limits now version earlier)
  pub aside : IfSome left (IsLeftOf limits now low earlier)
  pub based : IsBased r parent left version.pid low
  pub led : SeeksLeaf goal → splits ≡ true → IsLed (write_way goal key) parent left version.pid level low
  pub passed : Passed limits key floor k now version.pid earlier goal

module _ (limits : Limits) (key : List ℕ) (floor : ℕ) (splits : Bool) (goal : WriteGoal) (parent left : Option Version) (k : Knowledge) (r : Recalled) (visit : Visit) where
  abbrev Visits : VisitState → Type 0
  Visits state = VisitsToWrite limits key floor splits goal parent left k r (at visit state)

  recall_root : (pid n : ℕ) → 0 < pid → (recall r (step.Slot pid) (answer.Number n)).heads 0 ≡ r.heads 0
  recall_root zero n some = absurd (omega (arith, some))
  recall_root (suc pid) n some = elim (eqb_tells zero (suc pid)) [ inl same ↦ absurd (let e = same.1 in omega arith) | inr differs ↦ rw differs.0 refl ]

  based_as : (now : Recalled) → now.heads 0 ≡ r.heads 0 → (parent left : Option Version) (pid : ℕ) (low : List ℕ) → IsBased r parent left pid low → IsBased now parent left pid low
  based_as now e (Some above) left pid low h = tt
  based_as now e None None pid low h = elim h [ inl is ↦ inl (e ∙ is) | inr inner ↦ inr inner ]
  based_as now e None (Some other) pid low h = elim h [ inl is ↦ inl (e ∙ is) | inr inner ↦ inr inner ]

  kept_slot : (row : ℕ) (earlier : List ℕ) → IsUnread visit.pid earlier → (other : Version) → IsKept limits k other earlier → IsKept limits (learn_slot visit.pid row k) other earlier
  kept_slot row earlier new other i = record { in_hand = in_hand_slot limits k visit.pid row other (differs visit.pid other.pid earlier new i.among) i.in_hand; alive = i.alive; among = i.among }

  keeps_slot : (row : ℕ) → 0 < visit.pid → 0 < row → (earlier : List ℕ) → IsUnread visit.pid earlier → (other : WriteGoal)
      → KeepsToWrite limits key floor k visit.pid earlier other → KeepsToWrite limits key floor (learn_slot visit.pid row k) visit.pid earlier other
  keeps_slot row some linked earlier new Seek h = tt
  keeps_slot row some linked earlier new (Left pid) h = record {
    removed = h.removed;
    gone = record { in_hand = in_hand_slot limits k visit.pid row h.removed (λ e. h.unread.0 (sym h.is ∙ e)) h.gone.in_hand; gone = h.gone.gone };
    is = h.is;
    low = h.low;
    level = h.level;
    unread = h.unread;
  }
  keeps_slot row some linked earlier new (Merge at_left) h = kept_slot row earlier new at_left h
  keeps_slot row some linked earlier new (Unterm above at_left) h = record {
    above = kept_slot row earlier new above h.above;
    aside = kept_slot row earlier new at_left h.aside;
    up = h.up;
    after = slot_before k visit.pid row at_left.pid above.pid above.head (differs visit.pid at_left.pid earlier new h.aside.among) h.after;
  }

  visits_slot : (row : ℕ) → 0 < row → row < visit.limits.rows → Visits Slot
      → VisitsToWrite limits key floor splits goal parent left (learn k (step.Slot visit.pid) (answer.Number row)) (recall r (step.Slot visit.pid) (answer.Number row))
      (record visit { part = []; state = Row row row })
  visits_slot row linked few h =
      let some = h.seeks.on_way.shows.page in
      let new = h.seeks.on_way.distinct.2 in
      let kept : (other : Version) → IsKept limits k other h.earlier → IsKept limits (learn_slot visit.pid row k) other h.earlier =
      λ other i. record { in_hand = in_hand_slot limits k visit.pid row other (differs visit.pid other.pid h.earlier new i.among) i.in_hand; alive = i.alive; among = i.among } in
      record {
        level = h.level;
        low = h.low;
        earlier = h.earlier;
        seeks = seeks_slot limits (write_way goal key) (is_cutting goal) k r visit h.level h.low h.earlier row linked few h.seeks;
        above = IfSome_then parent h.above (λ other i. record { kept = kept other i.kept; up = i.up; after = before_slot k visit.pid row other.pid other.head some linked i.kept.in_hand.seen.head });
        aside = IfSome_then left h.aside (λ other i. record { kept = kept other i.kept; inner = i.inner });
        based = based_as (recall r (step.Slot visit.pid) (answer.Number row)) (recall_root visit.pid row some) parent left visit.pid h.low h.based;
        led = h.led;
        keeps = keeps_slot row some linked h.earlier new goal h.keeps;
      }

  module _ (row : ℕ) (content : Record) (fits : FitsRow limits k row content) where
    abbrev now : Knowledge
    now = learn k (step.Row row) (answer.Content content)

    abbrev walked : Recalled
    walked = recall r (step.Row row) (answer.Content content)

    kept_row : (other : Version) (earlier : List ℕ) → IsKept limits k other earlier → IsKept limits now other earlier
    kept_row other earlier i = record { in_hand = in_hand_row k row content fits.same limits other i.in_hand; alive = i.alive; among = i.among }

    missing_row : (pid : ℕ) (visited : List ℕ) → IsMissing limits k key floor pid visited → IsMissing limits now key floor pid visited
    missing_row pid visited h = record {
      removed = h.removed;
      gone = record
          { in_hand = in_hand_row k row content fits.same limits h.removed h.gone.in_hand; gone = h.gone.gone };
      is = h.is;
      low = h.low;
      level = h.level;
      unread =
          h.unread;
    }

    cut_row : (above at_left : Version) (earlier : List ℕ) → IsLosingTerm limits k earlier above at_left → IsLosingTerm limits now earlier above at_left
    cut_row above at_left earlier h = record { above = kept_row above earlier h.above; aside = kept_row at_left earlier h.aside; up = h.up; after = h.after }

    keeps_row : (pid : ℕ) (earlier : List ℕ) (other : WriteGoal) → KeepsToWrite limits key floor k pid earlier other → KeepsToWrite limits key floor now pid earlier other
    keeps_row pid earlier Seek h = tt
    keeps_row pid earlier (Left removed) h = missing_row removed (pid ∷ earlier) h
    keeps_row pid earlier (Merge at_left) h = kept_row at_left earlier h
    keeps_row pid earlier (Unterm above at_left) h = cut_row above at_left earlier h

    passed_row : (pid : ℕ) (earlier : List ℕ) (other : WriteGoal) → KeepsToWrite limits key floor k pid earlier other → Passed limits key floor k now pid earlier other
    passed_row pid earlier Seek h = tt
    passed_row pid earlier (Left removed) h = (h, missing_row removed (pid ∷ earlier) h)
    passed_row pid earlier (Merge at_left) h = kept_row at_left earlier h
    passed_row pid earlier (Unterm above at_left) h = cut_row above at_left earlier h

    visits_row : (head under : ℕ) → next_row content ≡ Some under → Visits (Row head row)
        → VisitsToWrite limits key floor splits goal parent left now walked (record visit { part = visit.part ++ content ∷ []; state = Row head under })
    visits_row head under more h = record {
      level = h.level;
      low = h.low;
      earlier = h.earlier;
      seeks = seeks_row limits (write_way goal key) (is_cutting goal) k r visit h.level h.low h.earlier row content fits head under more h.seeks;
      above = IfSome_then parent h.above (λ other i. record { kept = kept_row other h.earlier i.kept; up = i.up; after = i.after });
      aside = IfSome_then left h.aside (λ other i. record { kept = kept_row other h.earlier i.kept; inner = i.inner });
      based = based_as walked refl parent left visit.pid h.low h.based;
      led = h.led;
      keeps = keeps_row visit.pid h.earlier goal h.keeps;
    }

    reaches_whole : (version : Version) → version.pid ≡ visit.pid → version.chain ≡ visit.part ++ content ∷ [] → next_row content ≡ None
        → Visits (Row version.head row) → HasReached limits key floor splits goal parent left k now walked version
    reaches_whole version pid made last h =
        let here = arrived limits (write_way goal key) (is_cutting goal) k r visit h.level h.low h.earlier row content fits version pid made last h.seeks in
        record {
          level = h.level;
          low = h.low;
          earlier = h.earlier;
          arrives = here;
          passing = h.seeks.passing;
          fresh = λ here. not_passed (is_lower content r.walk) r.walk.passed (h.seeks.fresh here);
          above = IfSome_then parent h.above (λ other i. record {
            kept = kept_row other h.earlier i.kept;
            up = elim here.is_level [ inl none ↦ absurd (some_among other.pid h.earlier i.kept.among none) | inr is ↦ i.up ∙ ap suc (sym is) ];
            after = rw pid i.after;
          });
          aside = IfSome_then left h.aside (λ other i. record { kept = kept_row other h.earlier i.kept; inner = i.inner });
          based = rw pid (based_as walked refl parent left visit.pid h.low h.based);
          led = rw pid h.led;
          passed = rw pid (passed_row visit.pid h.earlier goal h.keeps);
        }

-- the same by what a visit makes of an answer
module _ (limits : Limits) (key : List ℕ) (floor : ℕ) (splits : Bool) (goal : WriteGoal) (parent left : Option Version) (k : Knowledge) (r : Recalled) (visit : Visit)
    (told : Answer Record) (h : VisitsToWrite limits key floor splits goal parent left k r visit) (f : Fits limits k (wanted_step visit) told) where
  abbrev VisitsAt : Visit → Answer Record → Type 0
  VisitsAt v x = VisitsToWrite limits key floor splits goal parent left k r v

  abbrev FitsAt : Visit → Answer Record → Type 0
  FitsAt v x = Fits limits k (wanted_step v) x

  pub visits_next : (new : Visit) → FindsHead visit told new ⊎ Continues visit told new
      → VisitsToWrite limits key floor splits goal parent left (learn k (wanted_step visit) told) (recall r (wanted_step visit) told) new
  visits_next new moves =
      let P : Visit → Answer Record → Type 0 = λ v x. VisitsToWrite limits key floor splits goal parent left (learn k (wanted_step v) x) (recall r (wanted_step v) x) new in
      elim moves [
        | inl b ↦ back visit P Slot (answer.Number b.row) told b.asked b.is (rw b.goes (visits_slot limits key floor splits goal parent left k r visit b.row b.some
            (rw h.seeks.on_way.same (row_below limits k visit.pid b.row h.seeks.on_way.shows.page (there visit FitsAt Slot (answer.Number b.row) told b.asked b.is f)))
            (there visit VisitsAt Slot (answer.Number b.row) told b.asked b.is h)))
        | inr b ↦
            let fits = there visit FitsAt (Row b.head b.row) (answer.Content b.content) told b.asked b.is f in
            back visit P (Row b.head b.row) (answer.Content b.content) told b.asked b.is
            (rw b.goes (visits_row limits key floor splits goal parent left k r visit b.row b.content fits b.head b.under b.more
            (there visit VisitsAt (Row b.head b.row) (answer.Content b.content) told b.asked b.is h)))
      ]

  pub reached_next : (version : Version) → Completes visit told version
      → HasReached limits key floor splits goal parent left k (learn k (wanted_step visit) told) (recall r (wanted_step visit) told) version
  reached_next version b =
      let fits = there visit FitsAt (Row version.head b.row) (answer.Content b.content) told b.asked b.is f in
      back visit (λ v x. HasReached limits key floor splits goal parent left k (learn k (wanted_step v) x) (recall r (wanted_step v) x) version)
      (Row version.head b.row) (answer.Content b.content) told b.asked b.is
      (reaches_whole limits key floor splits goal parent left k r visit b.row b.content fits version b.pid b.chain b.last
      (there visit VisitsAt (Row version.head b.row) (answer.Content b.content) told b.asked b.is h))
