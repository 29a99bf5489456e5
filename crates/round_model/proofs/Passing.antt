-- A reader's way to a key, also by the left of a removed page.
use Rattle.round_model.proofs.Words.{◌≡◌, ◌≢◌, ◌<◌, ◌≤◌, ◌++◌, ◌-◌, ◌||◌, ◌⊎◌, inl, inr, ℕ, zero, suc, List, [], ◌∷◌, Bool, true, false, Option, None, Some, refl, sym, ap, ◌∙◌, arith}
use Rattle.round_model.proofs.Words.{IsFalse, IsTrue, IfSome, ⊤, Limits, Answer, is_below, not_true, Record, is_removed, level_in, low_in, Fits, FitsRow, Knowledge, learn, Recalled}
use Rattle.round_model.proofs.Words.{is_lower, recall, IsAfter, Version, Leg, Down, Round, Past, below, has_met, IsInHand, HasArrived, IsUnderRemoval, LeadsDown, LeadsRight, NamesAt}
use Rattle.round_model.proofs.Words.{reaches, precedes}
use Rattle.bw_model.specs.declared.step.Step.TheVariants as step
use Rattle.bw_model.specs.declared.step.Answer.TheVariants as answer
use Rattle.round_model.specs.ReadGoals.{ReadGoal, Seek, Left, Beyond}
use Rattle.round_model.specs.Visits.{Slot, Row, FindsHead, Completes, Continues, Visit, at, to_page, wanted_step}
use Rattle.round_model.specs.ReadRounds.{BeginsToRead, IsAbove, IsGoneAt, IsOn, VisitsToRead, KeepsToRead, SaysAside, goes_beyond, read_way}
use Rattle.round_model.proofs.Holding.{before_slot, in_hand_as, in_hand_row, in_hand_slot}
use Rattle.round_model.proofs.PageLaws.{above_empty}
use Rattle.round_model.proofs.Removals.{not_passed, round_row, round_slot, under_row, under_slot}
use Rattle.round_model.proofs.Seeking.{arrived_next, hand, seeks_next, seeks_on, seeks_root}
use Rattle.round_model.proofs.Visiting.{back, there}
use Rattle.round_model.proofs.Walking.{is_new, not_itself, told_of, trans}
use Rattle.round_model.proofs.WayLaws.{down_names, lowest, right_names}

-- a key that is above a page that begins after another is above that one
reached_before : (key low high : List ℕ) → IsTrue (is_below low high) → IsTrue (reaches key high) → IsTrue (reaches key low)
reached_before key low high below reached = by_test (is_below key low) refl
  where
    by_test : (b : Bool) → is_below key low ≡ b → IsTrue (reaches key low)
    by_test false e = rw e refl
    by_test true e = let no : is_below key high ≡ false = not_true (is_below key high) reached in let clash : true ≡ false = sym (trans key low high e below) ∙ no in cc

-- the removed page, once the page was read whole
pub record IsBy (limits : Limits) (key : List ℕ) (k now : Knowledge) (version removed : Version) : Type 0 where
  pub was : IsInHand limits k removed
  pub gone : IsGoneAt limits now key removed
  pub apart : removed.pid ≢ version.pid
  pub before : IsAfter k removed version
  pub after : IsAfter now removed version

abbrev pub Passed : Limits → List ℕ → Knowledge → Knowledge → Version → ReadGoal → Type 0
Passed limits key k now version Seek = ⊤
Passed limits key k now version (Left removed) = IsBy limits key k now version removed
Passed limits key k now version Beyond = ⊤

-- the page above, once the page was read whole
pub record IsOver (limits : Limits) (k now : Knowledge) (goal : ReadGoal) (pid level : ℕ) (earlier : List ℕ) (above : Version) : Type 0 where
  pub was : IsInHand limits k above
  pub above_is : IsAbove limits now goal pid level earlier above

abbrev pub WasOn : Limits → Knowledge → Knowledge → Recalled → ReadGoal → Version → ℕ → List ℕ → Leg → Type 0
WasOn limits k now r goal version level earlier (Down above) = (r.walk.passed ≡ false) × IfSome above (IsOver limits k now goal version.pid level earlier)
WasOn limits k now r goal version level earlier (Round removed) = (r.walk.removed ≡ true) × (r.walk.passed ≡ true → level_in removed.chain ≤ r.walk.level)
WasOn limits k now r goal version level earlier (Past above) =
    ((earlier ≢ []) × (r.walk.removed ≡ true) × (r.walk.passed ≡ true → IsUnderRemoval above level r.walk.level version.chain)) × IfSome above (IsOver limits k now goal version.pid level earlier)

-- A page was read whole, on the way of the goal.
pub record HasReached (limits : Limits) (key : List ℕ) (goal : ReadGoal) (leg : Leg) (k now : Knowledge) (r : Recalled) (version : Version) : Type 0 where
  pub level : ℕ
  pub low : List ℕ
  pub earlier : List ℕ
  pub arrives : HasArrived limits k now r version level low earlier
  pub passing : IsTrue (read_way goal key low)
  pub passed : Passed limits key k now version goal
  pub leg_was : WasOn limits k now r goal version level earlier leg

-- the one of two keys that is below the other on a way is on the way
pub before_on : (goal : ReadGoal) (key low high : List ℕ) → IsTrue (is_below low high) → IsTrue (read_way goal key high) → IsTrue (read_way goal key low)
before_on Seek key low high below on = reached_before key low high below on
before_on (Left removed) key low high below on = trans low high (low_in removed.chain) below on
before_on Beyond key low high below on = reached_before key low high below on

module _ (limits : Limits) (key : List ℕ) (k : Knowledge) (r : Recalled) where
  -- slot 0 was read

  module _ (pid : ℕ) (fits : Fits limits k (step.Slot 0) (answer.Number pid)) where
    abbrev started : Knowledge
    started = learn k (step.Slot 0) (answer.Number pid)

    gone_root : (removed : Version) → IsGoneAt limits k key removed → IsGoneAt limits started key removed
    gone_root removed h =
        let hand = h.page.in_hand in
        record {
          page = record { in_hand = in_hand_as started hand hand.seen.head hand.seen.read; gone = h.page.gone };
          reached = h.reached;
        }

    -- the removed page isn't the root, which begins at the empty key
    not_root : (removed : Version) → IsGoneAt limits k key removed → removed.pid ≢ pid
    not_root removed h e =
        let hand = h.page.in_hand in
        let first : low_in removed.chain ≡ [] = fits.2 removed.head removed.chain (rw (← e) hand.seen.head) hand.seen.read in
        not_itself [] (rw first at (above_empty removed.chain hand.sound.is_chain.fitted h.page.gone))

    pub begins : (goal : ReadGoal) → BeginsToRead limits key k goal → VisitsToRead limits key goal (Down None) started (recall r (step.Slot 0) (answer.Number pid)) (to_page limits pid)
    begins Seek inside = record { level = 0; low = []; earlier = []; seeks = seeks_root limits (reaches key) false k r pid (lowest key) fits inside; keeps = tt; leg_is = (refl, tt) }
    begins (Left removed) h = record {
      level = 0;
      low = [];
      earlier = [];
      seeks = seeks_root limits (precedes (low_in removed.chain)) false k r pid (above_empty removed.chain h.1.page.in_hand.sound.is_chain.fitted h.1.page.gone) fits h.0;
      keeps = record { gone = gone_root removed h.1; apart = not_root removed h.1; after = tt };
      leg_is = (refl, tt);
    }
    begins Beyond inside = record { level = 0; low = []; earlier = []; seeks = seeks_root limits (reaches key) true k r pid (lowest key) fits inside; keeps = tt; leg_is = (refl, tt) }

  -- a visit goes on

  module _ (visit : Visit) where
    keeps_slot : (row : ℕ) → 0 < visit.pid → 0 < row → (goal : ReadGoal) → KeepsToRead limits key k (at visit Slot) goal
        → KeepsToRead limits key (learn k (step.Slot visit.pid) (answer.Number row)) (record visit { part = []; state = Row row row }) goal
    keeps_slot row some linked Seek h = tt
    keeps_slot row some linked (Left removed) h = record {
      gone = record { page = record { in_hand = in_hand_slot limits k visit.pid row removed h.apart h.gone.page.in_hand; gone = h.gone.page.gone }; reached = h.gone.reached };
      apart = h.apart;
      after = before_slot k visit.pid row removed.pid removed.head some linked h.gone.page.in_hand.seen.head;
    }
    keeps_slot row some linked Beyond h = tt

    met_slot : (pid row : ℕ) → 0 < pid → r.walk.removed ≡ false → (recall r (step.Slot pid) (answer.Number row)).walk.passed ≡ false
    met_slot zero row some is = absurd (omega (arith, some))
    met_slot (suc pid) row some is = is

    above_slot : (row level : ℕ) (earlier : List ℕ) (goal : ReadGoal) (above : Option Version) → IfSome above (IsAbove limits k goal visit.pid level earlier)
        → IfSome above (IsAbove limits (learn k (step.Slot visit.pid) (answer.Number row)) goal visit.pid level earlier)
    above_slot row level earlier goal None h = tt
    above_slot row level earlier goal (Some above) h = record
        { in_hand = in_hand_slot limits k visit.pid row above h.apart h.in_hand; alive = h.alive; among = h.among; up = h.up; apart = h.apart; says = h.says }

    on_slot : (row level : ℕ) (earlier : List ℕ) → 0 < visit.pid → (goal : ReadGoal) (leg : Leg) → IsOn limits k r goal (at visit Slot) level earlier leg
        → IsOn limits (learn k (step.Slot visit.pid) (answer.Number row)) (recall r (step.Slot visit.pid) (answer.Number row)) goal (record visit { part = []; state = Row row row }) level earlier leg
    on_slot row level earlier some goal (Down above) h = (met_slot visit.pid row some h.0, above_slot row level earlier goal above h.1)
    on_slot row level earlier some goal (Round removed) h = round_slot r row visit.pid removed some h
    on_slot row level earlier some goal (Past above) h = (under_slot r row visit.pid above level earlier some h.0, above_slot row level earlier goal above h.1)

    module _ (row : ℕ) (content : Record) (fits : FitsRow limits k row content) where
      abbrev now : Knowledge
      now = learn k (step.Row row) (answer.Content content)

      gone_row : (removed : Version) → IsGoneAt limits k key removed → IsGoneAt limits now key removed
      gone_row removed h = record { page = record { in_hand = in_hand_row k row content fits.same limits removed h.page.in_hand; gone = h.page.gone }; reached = h.reached }

      keeps_row : (head under : ℕ) (goal : ReadGoal) → KeepsToRead limits key k (at visit (Row head row)) goal
          → KeepsToRead limits key now (record visit { part = visit.part ++ content ∷ []; state = Row head under }) goal
      keeps_row head under Seek h = tt
      keeps_row head under (Left removed) h = record { gone = gone_row removed h.gone; apart = h.apart; after = h.after }
      keeps_row head under Beyond h = tt

      passed_row : (version : Version) → version.pid ≡ visit.pid → (head : ℕ) (goal : ReadGoal) → KeepsToRead limits key k (at visit (Row head row)) goal → Passed limits key k now version goal
      passed_row version pid head Seek h = tt
      passed_row version pid head (Left removed) h = record { was = h.gone.page.in_hand; gone = gone_row removed h.gone; apart = rw pid h.apart; before = rw pid h.after; after = rw pid h.after }
      passed_row version pid head Beyond h = tt

      above_row : (level : ℕ) (earlier : List ℕ) (goal : ReadGoal) (above : Version) → IsAbove limits k goal visit.pid level earlier above → IsAbove limits now goal visit.pid level earlier above
      above_row level earlier goal above h = record
          { in_hand = in_hand_row k row content fits.same limits above h.in_hand; alive = h.alive; among = h.among; up = h.up; apart = h.apart; says = h.says }

      on_row : (head under level : ℕ) (earlier : List ℕ) (goal : ReadGoal) (leg : Leg) → IsOn limits k r goal (at visit (Row head row)) level earlier leg
          → IsOn limits now (recall r (step.Row row) (answer.Content content)) goal (record visit { part = visit.part ++ content ∷ []; state = Row head under }) level earlier leg
      on_row head under level earlier goal (Down None) h = (not_passed (is_lower content r.walk) r.walk.passed h.0, tt)
      on_row head under level earlier goal (Down (Some above)) h = (not_passed (is_lower content r.walk) r.walk.passed h.0, above_row level earlier goal above h.1)
      on_row head under level earlier goal (Round removed) h = round_row removed r.walk content head row under h
      on_row head under level earlier goal (Past None) h = (under_row None level earlier r.walk visit.part content head row under h.0, tt)
      on_row head under level earlier goal (Past (Some above)) h = (under_row (Some above) level earlier r.walk visit.part content head row under h.0, above_row level earlier goal above h.1)

      was_row : (version : Version) → version.pid ≡ visit.pid → version.chain ≡ visit.part ++ content ∷ []
          → (head level : ℕ) (earlier : List ℕ) (goal : ReadGoal) (leg : Leg) → IsOn limits k r goal (at visit (Row head row)) level earlier leg
          → WasOn limits k now (recall r (step.Row row) (answer.Content content)) goal version level earlier leg
      was_row version pid made head level earlier goal (Down None) h = (not_passed (is_lower content r.walk) r.walk.passed h.0, tt)
      was_row version pid made head level earlier goal (Down (Some above)) h =
          (not_passed (is_lower content r.walk) r.walk.passed h.0, record { was = h.1.in_hand; above_is = rw pid (above_row level earlier goal above h.1) })
      was_row version pid made head level earlier goal (Round removed) h = round_row removed r.walk content head row 0 h
      was_row version pid made head level earlier goal (Past None) h = (under_row None level earlier r.walk visit.part content head row 0 h.0, tt)
      was_row version pid made head level earlier goal (Past (Some above)) h =
          (rw made (under_row (Some above) level earlier r.walk visit.part content head row 0 h.0), record { was = h.1.in_hand; above_is = rw pid (above_row level earlier goal above h.1) })

-- the same by what a visit makes of an answer
module _ (limits : Limits) (key : List ℕ) (goal : ReadGoal) (leg : Leg) (k : Knowledge) (r : Recalled) (visit : Visit) (told : Answer Record)
    (h : VisitsToRead limits key goal leg k r visit) (f : Fits limits k (wanted_step visit) told) where
  abbrev KeepsAt : ReadGoal → Visit → Answer Record → Type 0
  KeepsAt other v x = KeepsToRead limits key k v other

  abbrev OnAt : Visit → Answer Record → Type 0
  OnAt v x = IsOn limits k r goal v h.level h.earlier leg

  abbrev FitsAt : Visit → Answer Record → Type 0
  FitsAt v x = Fits limits k (wanted_step v) x

  -- a page that is kept aside
  pub keeps_next : (other : ReadGoal) → KeepsToRead limits key k visit other → (new : Visit) → FindsHead visit told new ⊎ Continues visit told new
      → KeepsToRead limits key (learn k (wanted_step visit) told) new other
  keeps_next other keeps new moves =
      let P : Visit → Answer Record → Type 0 = λ v x. KeepsToRead limits key (learn k (wanted_step v) x) new other in
      elim moves [
        | inl b ↦ back visit P Slot (answer.Number b.row) told b.asked b.is
            (rw b.goes (keeps_slot limits key k r visit b.row h.seeks.on_way.shows.page b.some other (there visit (KeepsAt other) Slot (answer.Number b.row) told b.asked b.is keeps)))
        | inr b ↦
            let fits = there visit FitsAt (Row b.head b.row) (answer.Content b.content) told b.asked b.is f in
            back visit P (Row b.head b.row) (answer.Content b.content) told b.asked b.is
            (rw b.goes (keeps_row limits key k r visit b.row b.content fits b.head b.under other (there visit (KeepsAt other) (Row b.head b.row) (answer.Content b.content) told b.asked b.is keeps)))
      ]

  on_next : (new : Visit) → FindsHead visit told new ⊎ Continues visit told new → IsOn limits (learn k (wanted_step visit) told) (recall r (wanted_step visit) told) goal new h.level h.earlier leg
  on_next new moves =
      let P : Visit → Answer Record → Type 0 = λ v x. IsOn limits (learn k (wanted_step v) x) (recall r (wanted_step v) x) goal new h.level h.earlier leg in
      elim moves [
        | inl b ↦ back visit P Slot (answer.Number b.row) told b.asked b.is
            (rw b.goes (on_slot limits key k r visit b.row h.level h.earlier h.seeks.on_way.shows.page goal leg (there visit OnAt Slot (answer.Number b.row) told b.asked b.is h.leg_is)))
        | inr b ↦
            let fits = there visit FitsAt (Row b.head b.row) (answer.Content b.content) told b.asked b.is f in
            back visit P (Row b.head b.row) (answer.Content b.content) told b.asked b.is
            (rw b.goes (on_row limits key k r visit b.row b.content fits b.head b.under h.level h.earlier goal leg
            (there visit OnAt (Row b.head b.row) (answer.Content b.content) told b.asked b.is h.leg_is)))
      ]

  pub visits_next : (new : Visit) → FindsHead visit told new ⊎ Continues visit told new → VisitsToRead limits key goal leg (learn k (wanted_step visit) told) (recall r (wanted_step visit) told) new
  visits_next new moves = record {
    level = h.level;
    low = h.low;
    earlier = h.earlier;
    seeks = seeks_next limits (read_way goal key) (has_met leg || goes_beyond goal) k r visit h.level h.low h.earlier told h.seeks f new moves;
    keeps = keeps_next goal h.keeps new moves;
    leg_is = on_next new moves;
  }

  -- the page was read whole
  module _ (version : Version) (b : Completes visit told version) where
    fits : FitsRow limits k b.row b.content
    fits = there visit FitsAt (Row version.head b.row) (answer.Content b.content) told b.asked b.is f

    pub passed_next : (other : ReadGoal) → KeepsToRead limits key k visit other → Passed limits key k (learn k (wanted_step visit) told) version other
    passed_next other keeps =
        back visit (λ v x. Passed limits key k (learn k (wanted_step v) x) version other) (Row version.head b.row) (answer.Content b.content) told b.asked b.is
        (passed_row limits key k r visit b.row b.content fits version b.pid version.head other
        (there visit (KeepsAt other) (Row version.head b.row) (answer.Content b.content) told b.asked b.is keeps))

    was_next : WasOn limits k (learn k (wanted_step visit) told) (recall r (wanted_step visit) told) goal version h.level h.earlier leg
    was_next =
        back visit (λ v x. WasOn limits k (learn k (wanted_step v) x) (recall r (wanted_step v) x) goal version h.level h.earlier leg) (Row version.head b.row)
        (answer.Content b.content) told b.asked b.is
        (was_row limits key k r visit b.row b.content fits version b.pid b.chain version.head h.level h.earlier goal leg
        (there visit OnAt (Row version.head b.row) (answer.Content b.content) told b.asked b.is h.leg_is))

    pub reached_next : HasReached limits key goal leg k (learn k (wanted_step visit) told) (recall r (wanted_step visit) told) version
    reached_next = record {
      level = h.level;
      low = h.low;
      earlier = h.earlier;
      arrives = arrived_next limits (read_way goal key) (has_met leg || goes_beyond goal) k r visit h.level h.low h.earlier told h.seeks f version b;
      passing = h.seeks.passing;
      passed = passed_next goal h.keeps;
      leg_was = was_next;
    }

-- a page was read whole
module _ (limits : Limits) (key : List ℕ) (goal : ReadGoal) (leg : Leg) (k now : Knowledge) (r : Recalled) (version : Version) (h : HasReached limits key goal leg k now r version) where
  abbrev chain : List Record
  chain = version.chain

  -- the page begins at or below the key
  pub at_or_below : IsTrue (reaches key (low_in chain))
  at_or_below = rw h.arrives.is_low (by_goal goal h.passing h.passed)
    where
      by_goal : (other : ReadGoal) → IsTrue (read_way other key h.low) → Passed limits key k now version other → IsTrue (reaches key h.low)
      by_goal Seek passing by = passing
      by_goal (Left removed) passing by = reached_before key h.low (low_in removed.chain) passing by.gone.reached
      by_goal Beyond passing by = passing

  pub is_on_way : IsTrue (read_way goal key (low_in chain))
  is_on_way = rw h.arrives.is_low h.passing

  -- whether a removed index page was met

  fresh_on : (other : Leg) → WasOn limits k now r goal version h.level h.earlier other → IsFalse (has_met other || goes_beyond goal) → r.walk.passed ≡ false
  fresh_on (Down above) on here = on.0
  fresh_on (Round removed) on here = cc
  fresh_on (Past above) on here = cc

  pub met_none : is_removed chain ≡ false → r.walk.passed ≡ false → r.walk.removed ≡ false
  met_none alive is = h.arrives.removed ∙ ap (λ (p : Bool). p || is_removed chain) is ∙ alive

  -- beyond a removed page, at one that isn't removed, no further removal was read
  pub met_still : is_removed chain ≡ false → r.walk.removed ≡ true → r.walk.passed ≡ true
  met_still alive is = by_test r.walk.passed refl
    where
      by_test : (p : Bool) → r.walk.passed ≡ p → p ≡ true
      by_test true e = refl
      by_test false e = let clash : true ≡ false = sym is ∙ met_none alive e in cc

  -- the page's level is the one that was expected, where another one was visited before it
  pub of_level : h.earlier ≢ [] → level_in chain ≡ h.level
  of_level some = elim h.arrives.is_level [ inl first ↦ absurd (some first) | inr is ↦ is ]

  -- it is at most the last removal's
  pub most_under : (above : Option Version) → is_removed chain ≡ false → WasOn limits k now r goal version h.level h.earlier (Past above) → level_in chain ≤ r.walk.level
  most_under None alive on = let is = of_level on.0.0 in let most = on.0.2 (met_still alive on.0.1) in omega (arith, is, most)
  most_under (Some above) alive on = let is = of_level on.0.0 in let less = (on.0.2 (met_still alive on.0.1)).0 in omega (arith, is, less)

  -- where the page isn't removed
  module _ (alive : is_removed chain ≡ false) where
    -- the removed page begins where the way ends, so that the next page isn't that one
    pub keeps_on : (pid level : ℕ) (low : List ℕ) → NamesAt chain pid level low → (other : ReadGoal) → IsTrue (read_way other key low)
        → Passed limits key k now version other → KeepsToRead limits key now (to_page limits pid) other
    keeps_on pid level low names Seek passing by = tt
    keeps_on pid level low names (Left removed) passing by = record {
      gone = by.gone;
      apart = λ e.
          let so = told_of chain removed.pid removed.chain level low
          (h.arrives.arrives.whole.names alive removed.pid removed.head removed.chain by.was.seen.head by.was.seen.read)
          (rw e names) in
          not_itself low (rw so.1 at passing);
      after = tt;
    }
    keeps_on pid level low names Beyond passing by = tt

    -- nor is the page above
    above_on : (pid : ℕ) (low : List ℕ) → NamesAt chain pid (level_in chain) low → (above : Version)
        → IsOver limits k now goal version.pid h.level h.earlier above → IsAbove limits now goal pid (level_in chain) (version.pid ∷ h.earlier) above
    above_on pid low names above over =
        let up : level_in above.chain ≡ suc (level_in chain) = elim h.arrives.is_level [ inl first ↦ absurd (rw first at over.above_is.among) | inr is ↦ over.above_is.up ∙ ap suc (sym is) ] in
        record {
          in_hand = over.above_is.in_hand;
          alive = over.above_is.alive;
          among = inr over.above_is.among;
          up = up;
          apart = λ e.
              let so = told_of chain above.pid above.chain (level_in chain) low
              (h.arrives.arrives.whole.names alive above.pid above.head above.chain over.was.seen.head over.was.seen.read)
              (rw e names) in
              let same = so.0 in
              omega (arith, up, same);
          says = over.above_is.says;
        }

    leg_right : (pid : ℕ) (low : List ℕ) → NamesAt chain pid (level_in chain) low → (other : Leg) → WasOn limits k now r goal version h.level h.earlier other
        → IsOn limits now r goal (to_page limits pid) (level_in chain) (version.pid ∷ h.earlier) other
    leg_right pid low names (Down None) on = (met_none alive on.0, tt)
    leg_right pid low names (Down (Some above)) on = (met_none alive on.0, above_on pid low names above on.1)
    leg_right pid low names (Round removed) on = (on.0, on.1 (met_still alive on.0))
    leg_right pid low names (Past None) on = (((λ e. cc), on.0.1, most_under None alive on), tt)
    leg_right pid low names (Past (Some above)) on =
        let is = of_level on.0.0 in
        let less = (on.0.2 (met_still alive on.0.1)).0 in
        (((λ e. cc), on.0.1, (omega (arith, is, less), tt)), above_on pid low names above on.1)

    pub goes_right : (pid : ℕ) → LeadsRight (read_way goal key) chain pid → VisitsToRead limits key goal leg now r (to_page limits pid)
    goes_right pid leads =
        let names = right_names (read_way goal key) chain pid leads in
        record {
          level = level_in chain;
          low = leads.low;
          earlier = version.pid ∷ h.earlier;
          seeks =
              seeks_on limits k now r version h.level h.low h.earlier h.arrives (read_way goal key) (has_met leg || goes_beyond goal) pid (level_in chain)
              leads.low names alive leads.on_way (fresh_on leg h.leg_was);
          keeps = keeps_on pid (level_in chain) leads.low names goal leads.on_way h.passed;
          leg_is = leg_right pid leads.low names leg h.leg_was;
        }

    says_aside : (other : ReadGoal) → Passed limits key k now version other → SaysAside other chain
    says_aside Seek by = tt
    says_aside (Left removed) by = h.arrives.arrives.whole.names alive removed.pid removed.head removed.chain by.was.seen.head by.was.seen.read
    says_aside Beyond by = tt

    -- the page above the next one is this one
    pub above_here : (pid level : ℕ) (low : List ℕ) → level_in chain ≡ suc level → NamesAt chain pid level low → (other : ReadGoal)
        → Passed limits key k now version other → IsAbove limits now other pid level (version.pid ∷ h.earlier) version
    above_here pid level low up names other by = record {
      in_hand = hand limits k now r version h.level h.low h.earlier h.arrives;
      alive = alive;
      among = inl refl;
      up = up;
      apart = λ e. (is_new limits k now r version h.level h.low h.earlier h.arrives pid level low names alive).0 (sym e);
      says = says_aside other by;
    }

    leg_down : (pid level : ℕ) (low : List ℕ) → level_in chain ≡ suc level → NamesAt chain pid level low → (other : Leg) → WasOn limits k now r goal version h.level h.earlier other
        → IsOn limits now r goal (to_page limits pid) level (version.pid ∷ h.earlier) (below version other)
    leg_down pid level low up names (Down above) on = (met_none alive on.0, above_here pid level low up names goal h.passed)
    leg_down pid level low up names (Round removed) on = (on.0, on.1 (met_still alive on.0))
    leg_down pid level low up names (Past above) on =
        let most = most_under above alive on in
        (((λ e. cc), on.0.1, (omega (arith, up, most), tt)), above_here pid level low up names goal h.passed)

    met_below : (other : Leg) → has_met (below version other) ≡ has_met other
    met_below (Down above) = refl
    met_below other = refl

    pub goes_down : (pid : ℕ) → 0 < level_in chain → LeadsDown (read_way goal key) chain pid → VisitsToRead limits key goal (below version leg) now r (to_page limits pid)
    goes_down pid index leads =
        let names = down_names (read_way goal key) chain pid index leads in
        record {
          level = level_in chain - 1;
          low = leads.low;
          earlier = version.pid ∷ h.earlier;
          seeks =
              rw (met_below leg) (seeks_on limits k now r version h.level h.low h.earlier h.arrives (read_way goal key) (has_met leg || goes_beyond goal) pid
              (level_in chain - 1) leads.low names alive leads.greatest.passing (fresh_on leg h.leg_was));
          keeps = keeps_on pid (level_in chain - 1) leads.low names goal leads.greatest.passing h.passed;
          leg_is = leg_down pid (level_in chain - 1) leads.low (omega (arith, index)) names leg h.leg_was;
        }
