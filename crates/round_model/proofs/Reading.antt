-- What an answer leaves a reader's round.
use Rattle.round_model.proofs.Words.{ap, ◌≡◌, ◌<◌, ◌+◌, ◌||◌, ◌⊎◌, inl, inr, ℕ, List, [], Bool, true, false, Option, Some, None, refl, sym, ◌∙◌, arith, IfSome, Limits, Answer, Record}
use Rattle.round_model.proofs.Words.{is_removed, low_in, Fits, Knowledge, learn, Recalled, recall, Version, Sight, Slot, Row, Empty, Whole, IsTold, IsInHand, IsReached, IsRoundLast}
use Rattle.round_model.proofs.Words.{IsSeeking, IsUnderLast, reads_left_at, reads_left_in, with_walk}
use Rattle.round_model.specs.ReadGoals.{ReadGoal, Seek, Left, Beyond}
use Rattle.round_model.specs.ReadLegs.{Leg, Down, Round, Past, IsPlain, above_of, below, has_met, level_on}
use Rattle.round_model.specs.ReadEnds.{ReadEnd, Again, Removed, Leaf, Beside}
use Rattle.round_model.specs.Descents.{WayState, Root, Page, Finds, Shows as WayShows}
use Rattle.round_model.specs.ReadRounds.{BeginsToRead, CanMeetLeg, CanPass, EndsRead, HasChildren, IsAtLevel, IsAtMergedPage, IsLeftLeaf, VisitsToRead}
use Rattle.round_model.specs.ReadRounds.{MissesRead, ReadRound, SeeksKey, Shows, ShowsVisit, Spends, TreatsRead, at, goes_beyond, read_round_kept, wanted_step}
use Rattle.round_model.specs.ReadRounds.{read_way, way_on, reading}
use Rattle.round_model.specs.Rounds.{CanSee, Follows, Responds, Sees, machine}
use Rattle.round_model.specs.Visits as page
use Rattle.round_model.specs.Ways.{EndsHere, StaysLeft, precedes, reaches}
use Rattle.round_model.proofs.Lost.{found_nothing}
use Rattle.round_model.proofs.Passing.{HasReached, IsOver, at_or_below, begins, goes_down, goes_right, keeps_next, passed_next, reached_next, visits_next}
use Rattle.round_model.proofs.Rounding.{HasNeared, goes_down_merged, goes_nearer, goes_right_merged, goes_round, goes_through, is_beside, is_merged, past_leaf, past_merged, unpassed, within_beside}
use Rattle.round_model.proofs.Seeking.{hand, is_gone, living, reached}
use Rattle.round_model.proofs.Responding.{by_step}
use Rattle.round_model.proofs.Spending.{base_passed, left_empty, left_gone, left_kept, left_on, left_removed, left_round, left_some, spent_empty, spent_on, still}
use Rattle.round_model.proofs.WayLaws.{covers_here}

-- by the leg of a round: a page was read whole
abbrev pub HasRead : Limits → List ℕ → ReadGoal → Leg → Knowledge → Knowledge → Recalled → Version → Type 0
HasRead limits key goal (Down above) k now r version = HasReached limits key goal (Down above) k now r version
HasRead limits key goal (Round removed) k now r version = HasNeared limits key goal removed k now r version
HasRead limits key goal (Past above) k now r version = HasReached limits key goal (Past above) k now r version

-- a round that isn't on its way round a page

plain_below : (version : Version) (leg : Leg) → IsPlain leg → IsPlain (below version leg)
plain_below version (Down above) plain = tt
plain_below version (Round removed) plain = absurd plain
plain_below version (Past above) plain = tt

plain_level : (leg : Leg) → IsPlain leg → IsPlain (level_on leg)
plain_level (Down above) plain = tt
plain_level (Round removed) plain = absurd plain
plain_level (Past above) plain = tt

shows_plain : (limits : Limits) (key : List ℕ) (goal : ReadGoal) (k : Knowledge) (r : Recalled) (visit : page.Visit) (leg : Leg) → IsPlain leg
    → VisitsToRead limits key goal leg k r visit → ShowsVisit limits key goal leg k r visit
shows_plain limits key goal k r visit (Down above) plain h = h
shows_plain limits key goal k r visit (Round removed) plain h = absurd plain
shows_plain limits key goal k r visit (Past above) plain h = h

read_plain : (limits : Limits) (key : List ℕ) (goal : ReadGoal) (k now : Knowledge) (r : Recalled) (version : Version) (leg : Leg) → IsPlain leg
    → HasRead limits key goal leg k now r version → HasReached limits key goal leg k now r version
read_plain limits key goal k now r version (Down above) plain h = h
read_plain limits key goal k now r version (Round removed) plain h = absurd plain
read_plain limits key goal k now r version (Past above) plain h = h

-- so is a round that has a page above
plain_above : (leg : Leg) (above : Version) → above_of leg ≡ Some above → IsPlain leg
plain_above (Down page) above e = tt
plain_above (Round removed) above e = cc
plain_above (Past page) above e = tt

-- what follows once a page was read whole
abbrev After : ReadRound → Knowledge → Recalled → ReadRound → Option ReadEnd → Type 0
After old now r new None = Shows new now r
After old now r new (Some end) = EndsRead old now r end

module _ (old : ReadRound) (k now : Knowledge) (r : Recalled) (version : Version) (h : HasRead old.limits old.key old.goal old.leg k now r version) where
  at_leg : (leg : Leg) → old.leg ≡ leg → HasRead old.limits old.key old.goal leg k now r version
  at_leg leg e = rw e at h

  at_goal : (goal : ReadGoal) → old.goal ≡ goal → IsPlain old.leg → HasReached old.limits old.key goal old.leg k now r version
  at_goal goal e plain = rw e at (read_plain old.limits old.key old.goal k now r version old.leg plain h)

  -- the round goes on
  shows : (goal : ReadGoal) (leg : Leg) (next : ℕ) → IsPlain leg → VisitsToRead old.limits old.key goal leg now r (page.to_page old.limits next)
      → ShowsVisit old.limits old.key goal leg now r (page.to_page old.limits next)
  shows goal leg next plain is = shows_plain old.limits old.key goal now r (page.to_page old.limits next) leg plain is

  -- the page is in hand
  in_hand : (leg : Leg) → HasRead old.limits old.key old.goal leg k now r version → IsInHand old.limits now version
  in_hand (Down above) d = hand old.limits k now r version d.level d.low d.earlier d.arrives
  in_hand (Round removed) d = let n = d.nears in hand old.limits k now r version n.level n.low n.earlier n.arrives
  in_hand (Past above) d = hand old.limits k now r version d.level d.low d.earlier d.arrives

  neared : (removed : Version) → IsAtLevel old version removed → HasNeared old.limits old.key old.goal removed k now r version
  neared removed left = at_leg (Round removed) left.leg

  treated : (new : ReadRound) (result : Option ReadEnd) → TreatsRead old version new result → After old now r new result
  treated new None t = elim t [
    | inl right ↦ rw right.goes
        (shows old.goal old.leg right.next right.plain (goes_right old.limits old.key old.goal old.leg k now r version (at_goal old.goal refl right.plain) right.alive right.next right.leads))
    | inr (inl down) ↦ rw down.goes (shows old.goal (below version old.leg) down.next (plain_below version old.leg down.plain)
        (goes_down old.limits old.key old.goal old.leg k now r version (at_goal old.goal refl down.plain) down.alive down.next down.index down.leads))
    | inr (inr (inl beyond)) ↦ rw beyond.goes (shows Beyond (level_on old.leg) beyond.next (plain_level old.leg beyond.left.plain) (past_leaf old.limits old.key
        beyond.removed old.leg k now r version (at_goal (Left beyond.removed) beyond.left.goal beyond.left.plain) beyond.left.alive beyond.beside beyond.next
        beyond.leads))
    | inr (inr (inr (inl past))) ↦ rw past.goes (shows Beyond (level_on old.leg) past.next (plain_level old.leg past.left.plain)
        (past_merged old.limits old.key past.removed old.leg k now r version (at_goal (Left past.removed) past.left.goal past.left.plain) past.left.alive past.next past.leads))
    | inr (inr (inr (inr (inl round)))) ↦ rw round.goes (goes_round old.limits old.key old.goal old.leg round.above round.is_above k now r version
        (at_goal old.goal refl (plain_above old.leg round.above round.is_above)) round.gone round.next round.leads round.index)
    | inr (inr (inr (inr (inr (inl nearer))))) ↦ rw (nearer.goes, nearer.left.leg)
        (goes_nearer old.limits old.key old.goal nearer.removed k now r version (neared nearer.removed nearer.left) nearer.left.alive nearer.next nearer.leads)
    | inr (inr (inr (inr (inr (inr (inl through)))))) ↦ rw through.goes
        (goes_through old.limits old.key old.goal through.removed k now r version (neared through.removed through.left) through.left.alive through.beside through.next through.leads)
    | inr (inr (inr (inr (inr (inr (inr (inl right))))))) ↦ rw right.goes
        (goes_right_merged old.limits old.key old.goal right.removed k now r version (neared right.removed right.there.left) right.there.left.alive right.there.left.same right.next right.leads)
    | inr (inr (inr (inr (inr (inr (inr (inr down))))))) ↦ rw down.goes
        (goes_down_merged old.limits old.key old.goal down.removed k now r version (neared down.removed down.there.left) down.there.left.alive down.there.left.same down.next down.index down.leads)
  ]
  treated new (Some Again) t = inr (record { version = version; page = in_hand old.leg h; lost = t })
  treated new (Some (Removed removed)) t =
      let d = at_goal old.goal refl t.plain in
      rw t.is (record { page = is_gone old.limits k now r version d.level d.low d.earlier d.arrives t.gone; reached = at_or_below old.limits old.key old.goal old.leg k now r version d })
  treated new (Some (Leaf leaf)) t = elim t [
    | inl end ↦ (let d = at_goal old.goal refl end.plain in
        rw end.is (record {
          page = living old.limits k now r version d.level d.low d.earlier d.arrives end.alive;
          level = end.ends.leaf;
          covered = covers_here old.key version.chain (at_or_below old.limits old.key old.goal old.leg k now r version d) (stays old.goal end.seeks end.ends);
        }))
    | inr merged ↦ rw merged.is
        (is_merged old.limits old.key merged.removed old.leg k now r version (at_goal (Left merged.removed) merged.left.goal merged.left.plain) merged.left.alive merged.stays merged.left.ends.leaf)
  ]
    where
      stays : (goal : ReadGoal) → SeeksKey goal → EndsHere (read_way goal old.key) version.chain → StaysLeft (reaches old.key) version.chain
      stays Seek seeks ends = ends.stays
      stays (Left removed) seeks ends = absurd seeks
      stays Beyond seeks ends = ends.stays
  treated new (Some (Beside left removed)) t =
      rw t.is (is_beside old.limits old.key removed old.leg k now r version (at_goal (Left removed) t.at_left.goal t.at_left.plain) t.at_left.alive t.beside t.stays t.at_left.ends.leaf)

abbrev Then : ReadRound → Option ReadEnd → ReadRound → Answer Record → Type 0
Then new result old told = (k : Knowledge) (r : Recalled) → Shows old k r → Fits old.limits k (wanted_step old) told → Follows reading k r old told new result

abbrev Pays : ReadRound → Option ReadEnd → ReadRound → Answer Record → Type 0
Pays new result old told = (reserve kept : ℕ) (k : Knowledge) (r : Recalled) → Shows old k r → Fits old.limits k (wanted_step old) told → Spends reserve kept r old told new result

-- A page is visited on some way.
record IsSought (limits : Limits) (k : Knowledge) (r : Recalled) (visit : page.Visit) : Type 0 where
  way : List ℕ → Bool
  beyond : Bool
  level : ℕ
  low : List ℕ
  earlier : List ℕ
  seeks : IsSeeking limits way beyond k r visit level low earlier

sought : (limits : Limits) (key : List ℕ) (goal : ReadGoal) (k : Knowledge) (r : Recalled) (visit : page.Visit) (leg : Leg) → ShowsVisit limits key goal leg k r visit → IsSought limits k r visit
sought limits key goal k r visit (Down above) h = record
    { way = read_way goal key; beyond = has_met (Down above) || goes_beyond goal; level = h.level; low = h.low; earlier = h.earlier; seeks = h.seeks }
sought limits key goal k r visit (Round removed) h = record
    { way = read_way (Left removed) key; beyond = true; level = h.nears.level; low = h.nears.low; earlier = h.nears.earlier; seeks = h.nears.seeks }
sought limits key goal k r visit (Past above) h = record { way = read_way goal key; beyond = true; level = h.level; low = h.low; earlier = h.earlier; seeks = h.seeks }

-- a removed index page was met before it
met_before : (limits : Limits) (key : List ℕ) (goal : ReadGoal) (k : Knowledge) (r : Recalled) (visit : page.Visit) (leg : Leg)
    → ShowsVisit limits key goal leg k r visit → has_met leg ≡ true → r.walk.removed ≡ true
met_before limits key goal k r visit (Down above) h e = cc
met_before limits key goal k r visit (Round removed) h e = by_state visit.state h.nears.leg_is
  where
    by_state : (state : page.VisitState) → IsRoundLast removed r.walk state → r.walk.removed ≡ true
    by_state Slot is = is.0
    by_state (Row head row) is = is.0
met_before limits key goal k r visit (Past above) h e = by_state visit.state h.leg_is.0
  where
    by_state : (state : page.VisitState) → IsUnderLast above h.level h.earlier r.walk visit.part state → r.walk.removed ≡ true
    by_state Slot is = is.1
    by_state (Row head row) is = is.1

-- by what a visit makes of an answer
module _ (limits : Limits) (key : List ℕ) (goal : ReadGoal) (k : Knowledge) (r : Recalled) (visit : page.Visit) (told : Answer Record) (f : Fits limits k (page.wanted_step visit) told) where
  on_visit : (leg : Leg) → ShowsVisit limits key goal leg k r visit → (new : page.Visit) → page.FindsHead visit told new ⊎ page.Continues visit told new
      → ShowsVisit limits key goal leg (learn k (page.wanted_step visit) told) (recall r (page.wanted_step visit) told) new
  on_visit (Down above) h new moves = visits_next limits key goal (Down above) k r visit told h f new moves
  on_visit (Round removed) h new moves = record {
    nears = visits_next limits key (Left removed) (Round removed) k r visit told h.nears f new moves;
    keeps = keeps_next limits key (Left removed) (Round removed) k r visit told h.nears f goal h.keeps new moves;
    index = h.index;
    reached = h.reached;
  }
  on_visit (Past above) h new moves = visits_next limits key goal (Past above) k r visit told h f new moves

  pub whole : (leg : Leg) → ShowsVisit limits key goal leg k r visit → (version : Version) → page.Completes visit told version
      → HasRead limits key goal leg k (learn k (page.wanted_step visit) told) (recall r (page.wanted_step visit) told) version
  whole (Down above) h version b = reached_next limits key goal (Down above) k r visit told h f version b
  whole (Round removed) h version b = record {
    nears = reached_next limits key (Left removed) (Round removed) k r visit told h.nears f version b;
    passed = passed_next limits key (Left removed) (Round removed) k r visit told h.nears f version b goal h.keeps;
    index = h.index;
    reached = h.reached;
  }
  whole (Past above) h version b = reached_next limits key goal (Past above) k r visit told h f version b

module _ (old new : ReadRound) (told : Answer Record) (visit : page.Visit) where
  abbrev here : ReadRound
  here = at old (Page visit)

  seen : (next : page.Visit) (sight : Sight) (result : Option ReadEnd) → page.Responds visit told next (Some sight) → Sees reading here sight new result → Then new result here told
  seen next Empty result b sees = rw sees (λ k r h f. inl (found_nothing r visit told b))
  seen next (Whole version) result b sees = λ k r h f.
      by_result k r result
      (treated here k (learn k (page.wanted_step visit) told) (recall r (page.wanted_step visit) told) version (whole old.limits old.key old.goal k r visit told f old.leg h version b) new result sees)
    where
      by_result : (k : Knowledge) (r : Recalled) (o : Option ReadEnd)
          → After here (learn k (page.wanted_step visit) told) (recall r (page.wanted_step visit) told) new o → Follows reading k r here told new o
      by_result k r None a = a
      by_result k r (Some end) a = a

  module _ (reserve kept : ℕ) (k : Knowledge) (r : Recalled) (h : ShowsVisit old.limits old.key old.goal old.leg k r visit) (f : Fits old.limits k (page.wanted_step visit) told) where
    abbrev Lost : ReadGoal → Type 0
    Lost goal = MissesRead reserve kept r (record here { goal = goal }) told goal

    -- what is reserved is left
    missed_with : reserve < reads_left_in old.limits reserve r visit → (goal : ReadGoal) → Lost goal
    missed_with more Seek = inr (omega (arith, more))
    missed_with more (Left removed) = inr (omega (arith, more))
    missed_with more Beyond = omega (arith, more)

    -- a page wasn't there
    missed : page.FindsEmpty visit told → (goal : ReadGoal) (leg : Leg) → ShowsVisit old.limits old.key goal leg k r visit → Lost goal
    missed b Seek (Down above) at = inl (spent_empty reserve old.limits (reaches old.key) false k r visit at.level at.low at.earlier told at.seeks f refl b)
    missed b (Left removed) (Down above) at = inl (spent_empty reserve old.limits (precedes (low_in removed.chain)) false k r visit at.level at.low at.earlier told at.seeks f refl b)
    missed b Beyond (Down above) at = let some = left_empty reserve old.limits (reaches old.key) true k r visit at.level at.low at.earlier told at.seeks f b in omega (arith, some)
    missed b goal (Round removed) at =
        let s = at.nears in
        missed_with (left_gone reserve old.limits (precedes (low_in removed.chain)) true k r visit s.level s.low s.earlier told s.seeks f b
        (met_before old.limits old.key goal k r visit (Round removed) at refl)) goal
    missed b goal (Past above) at =
        missed_with
        (left_gone reserve old.limits (read_way goal old.key) true k r visit at.level at.low at.earlier told at.seeks f b (met_before old.limits old.key goal k r visit (Past above) at refl))
        goal

    -- a page was read whole
    module _ (version : Version) (b : page.Completes visit told version) where
      s : IsSought old.limits k r visit
      s = sought old.limits old.key old.goal k r visit old.leg h

      -- the removal was a cause, where the page above it is kept
      unpassed_at : is_removed version.chain ≡ true → (above : Version) → above_of old.leg ≡ Some above → r.walk.passed ≡ false
      unpassed_at gone above e =
          sym (base_passed reserve old.limits s.way s.beyond k r visit s.level s.low s.earlier told s.seeks f version b)
          ∙ unpassed old.limits old.key old.goal old.leg above e k (learn k (page.wanted_step visit) told) (recall r (page.wanted_step visit) told) version
          (read_plain old.limits old.key old.goal k (learn k (page.wanted_step visit) told) (recall r (page.wanted_step visit) told) version old.leg
          (plain_above old.leg above e) (whole old.limits old.key old.goal k r visit told f old.leg h version b)) gone

      less : is_removed version.chain ≡ false → reads_left_at old.limits reserve (recall r (page.wanted_step visit) told).walk [] Slot < reads_left_in old.limits reserve r visit
      less = left_on reserve old.limits s.way s.beyond k r visit s.level s.low s.earlier told s.seeks f version b

      more : is_removed version.chain ≡ false → (goal : ReadGoal) → old.goal ≡ goal
          → reads_left_at old.limits reserve (recall r (page.wanted_step visit) told).walk [] Slot + read_round_kept kept goal < reads_left_in old.limits
          reserve r visit + read_round_kept kept old.goal
      more alive goal e = let l = less alive in rw e (omega (arith, l))

      gone_on : is_removed version.chain ≡ true → (above : Version) → above_of old.leg ≡ Some above
          → reads_left_at old.limits reserve (recall r (page.wanted_step visit) told).walk [] Slot + read_round_kept kept old.goal < reads_left_in old.limits
          reserve r visit + read_round_kept kept old.goal
      gone_on gone above e = let l = left_round reserve old.limits s.way s.beyond k r visit s.level s.low s.earlier told s.seeks f version b gone (unpassed_at gone above e) in omega (arith, l)

      reserved : is_removed version.chain ≡ true → reserve < reads_left_in old.limits reserve r visit
      reserved = left_removed reserve old.limits s.way s.beyond k r visit s.level s.low s.earlier told s.seeks f version b

      by_result : (o : Option ReadEnd) → TreatsRead here version new o → Spends reserve kept r here told new o
      by_result None t = elim t [
        | inl right ↦ rw right.goes (inl (more right.alive old.goal refl))
        | inr (inl down) ↦ rw down.goes (inl (more down.alive old.goal refl))
        | inr (inr (inl beyond)) ↦ rw beyond.goes (inl (more beyond.left.alive (Left beyond.removed) beyond.left.goal))
        | inr (inr (inr (inl past))) ↦ rw past.goes (inl (more past.left.alive (Left past.removed) past.left.goal))
        | inr (inr (inr (inr (inl round)))) ↦ rw round.goes (inl (gone_on round.gone round.above round.is_above))
        | inr (inr (inr (inr (inr (inl nearer))))) ↦ rw nearer.goes (inl (more nearer.left.alive old.goal refl))
        | inr (inr (inr (inr (inr (inr (inl through)))))) ↦ rw through.goes (inl (more through.left.alive old.goal refl))
        | inr (inr (inr (inr (inr (inr (inr (inl right))))))) ↦ rw right.goes (inl (more right.there.left.alive old.goal refl))
        | inr (inr (inr (inr (inr (inr (inr (inr down))))))) ↦ rw down.goes (inl (more down.there.left.alive old.goal refl))
      ]
      by_result (Some Again) t = elim t [
        | inl lost ↦ missed_with (reserved lost.gone) old.goal
        | inr off ↦ missed_with
            (left_kept reserve old.limits s.way s.beyond k r visit s.level s.low s.earlier told s.seeks f version b (met_before old.limits old.key old.goal k r visit old.leg h (ap has_met off.leg)))
            old.goal
      ]
      by_result (Some (Removed removed)) t = let some = reserved t.gone in omega (arith, some)
      by_result (Some (Leaf leaf)) t = let some = left_some reserve old.limits s.way s.beyond k r visit s.level s.low s.earlier told s.seeks f version b in omega (arith, some)
      by_result (Some (Beside left removed)) t =
          let some = left_some reserve old.limits s.way s.beyond k r visit s.level s.low s.earlier told s.seeks f version b in
          rw t.at_left.goal (omega (arith, some))

  paid : (next : page.Visit) (sight : Sight) (result : Option ReadEnd) → page.Responds visit told next (Some sight) → Sees reading here sight new result → Pays new result here told
  paid next Empty result b sees = rw sees (λ reserve kept k r h f. missed reserve kept k r h f b old.goal old.leg h)
  paid next (Whole version) result b sees = λ reserve kept k r h f. by_result reserve kept k r h f version b result sees

-- what follows from what a round makes of an answer

pub follows_from : (old new : ReadRound) (told : Answer Record) (result : Option ReadEnd) → Responds reading old told new result
    → (k : Knowledge) (r : Recalled) → Shows old k r → Fits old.limits k (wanted_step old) told → Follows reading k r old told new result
follows_from old new told result responds = by_step reading (λ round. refl) (λ o x n e. Then n e o x) old new told result responds
    (λ root k r h f. rw h.0 (begins old.limits old.key k r root f old.goal h.1))
    (λ visit next b k r h f. on_visit old.limits old.key old.goal k r visit told f old.leg h next b)
    (λ visit next sight b sees. seen old new told visit next sight result b sees)

pub spends_from : (old new : ReadRound) (told : Answer Record) (result : Option ReadEnd) → Responds reading old told new result
    → (reserve kept : ℕ) (k : Knowledge) (r : Recalled) → Shows old k r → Fits old.limits k (wanted_step old) told → Spends reserve kept r old told new result
spends_from old new told result responds = by_step reading (λ round. refl) (λ o x n e. Pays n e o x) old new told result responds
    (λ root reserve kept k r h f. inl (omega arith))
    (λ visit next b reserve kept k r h f.
    let s = sought old.limits old.key old.goal k r visit old.leg h in
    still (with_walk old.limits reserve) r (page.wanted_step visit) told _ _ (read_round_kept kept old.goal)
    (spent_on reserve old.limits s.way s.beyond k r visit s.level s.low s.earlier told s.seeks f next b))
    (λ visit next sight b sees. paid old new told visit next sight result b sees)

-- what the round shows, its descent does
pub way_shows : (round : ReadRound) (k : Knowledge) (r : Recalled) → Shows round k r → WayShows (reading.way round) k
way_shows round k r h = by_state round.state refl
  where
    inside_at : (goal : ReadGoal) → BeginsToRead round.limits round.key k goal → k.inside ≡ true
    inside_at Seek inside = inside
    inside_at (Left removed) begins = begins.0
    inside_at Beyond inside = inside

    by_state : (state : WayState) → round.state ≡ state → WayShows (reading.way round) k
    by_state Root e = let begun : (round.leg ≡ Down None) × BeginsToRead round.limits round.key k round.goal = rw e at h in rw e (inside_at round.goal begun.1)
    by_state (Page visit) e =
        let here : ShowsVisit round.limits round.key round.goal round.leg k r visit = rw e at h in
        rw e (sought round.limits round.key round.goal k r visit round.leg here).seeks.on_way.shows

-- the page that was found is one that the round has reached

can_pass : (limits : Limits) (key : List ℕ) (leg : Leg) (k now : Knowledge) (r : Recalled) (version : Version) (goal : ReadGoal)
    → HasReached limits key goal leg k now r version → CanPass limits version goal
can_pass limits key leg k now r version Seek d = tt
can_pass limits key leg k now r version (Left removed) d = λ alive beside next is. within_beside limits key removed leg k now r version d alive beside next (inl is)
can_pass limits key leg k now r version Beyond d = tt

-- the page above names pages that there may be
has_children : (limits : Limits) (k now : Knowledge) (goal : ReadGoal) (pid level : ℕ) (earlier : List ℕ) (above : Option Version)
    → IfSome above (IsOver limits k now goal pid level earlier) → IfSome above (HasChildren limits)
has_children limits k now goal pid level earlier None over = tt
has_children limits k now goal pid level earlier (Some above) over = let up = over.above_is.up in record { index = omega (arith, up); names = over.above_is.in_hand.sound.names over.above_is.alive }

can_meet : (limits : Limits) (key : List ℕ) (goal : ReadGoal) (k now : Knowledge) (r : Recalled) (version : Version) (leg : Leg)
    → HasRead limits key goal leg k now r version → IsReached limits (way_on leg goal key) version × CanMeetLeg limits (read_way goal key) goal version leg
can_meet limits key goal k now r version (Down above) d = (
  reached limits k now r version d.level d.low d.earlier d.arrives (read_way goal key) d.passing,
  (can_pass limits key (Down above) k now r version goal d, has_children limits k now goal version.pid d.level d.earlier above d.leg_was.1),
)
can_meet limits key goal k now r version (Round removed) d =
    let n = d.nears in (
      reached limits k now r version n.level n.low n.earlier n.arrives (read_way (Left removed) key) n.passing,
      record { index = d.index; reached = d.reached; names = λ alive beside next named. within_beside limits key removed (Round removed) k now r version n alive beside next named },
    )
can_meet limits key goal k now r version (Past above) d = (
  reached limits k now r version d.level d.low d.earlier d.arrives (read_way goal key) d.passing,
  (can_pass limits key (Past above) k now r version goal d, has_children limits k now goal version.pid d.level d.earlier above d.leg_was.1),
)

pub can_see : (old : ReadRound) (other : WayState) (told : Answer Record) (sight : Sight) → Finds (reading.way old) told sight → IsTold (machine reading) old told → CanSee reading (at old other) sight
can_see old other told Empty b t = tt
can_see old other told (Whole version) b t =
    let visit = b.visit in
    let h = rw b.asked at t.shows in
    let f = rw b.asked at t.fits in
    let meets = can_meet old.limits old.key old.goal t.k (learn t.k (page.wanted_step visit) told) (recall t.r (page.wanted_step visit) told) version old.leg
    (whole old.limits old.key old.goal t.k t.r visit told f old.leg h version b.responds) in
    record { reached = meets.0; meets = meets.1 }

-- what a round does with a page doesn't depend on the state that it had

left_as : (old : ReadRound) (state other : WayState) (version removed : Version) → IsLeftLeaf (at old other) version removed → IsLeftLeaf (at old state) version removed
left_as old state other version removed t = record { plain = t.plain; goal = t.goal; alive = t.alive; ends = t.ends }

level_as : (old : ReadRound) (state other : WayState) (version removed : Version) → IsAtLevel (at old other) version removed → IsAtLevel (at old state) version removed
level_as old state other version removed t = record { leg = t.leg; alive = t.alive; same = t.same }

merged_as : (old : ReadRound) (state other : WayState) (version removed : Version) → IsAtMergedPage (at old other) version removed → IsAtMergedPage (at old state) version removed
merged_as old state other version removed t = record { left = level_as old state other version removed t.left; stays = t.stays; merged = t.merged }

pub treats_as : (old new : ReadRound) (state other : WayState) (version : Version) (result : Option ReadEnd) → TreatsRead (at old other) version new result
    → TreatsRead (at old state) version new result
treats_as old new state other version None t = elim t [
  | inl right ↦ inl (record { plain = right.plain; alive = right.alive; next = right.next; leads = right.leads; goes = right.goes })
  | inr (inl down) ↦ inr (inl (record { plain = down.plain; alive = down.alive; stays = down.stays; index = down.index; next = down.next; leads = down.leads; goes = down.goes }))
  | inr (inr (inl beyond)) ↦ inr (inr (inl
      (record { removed = beyond.removed; left = left_as old state other version beyond.removed beyond.left; beside = beyond.beside; next = beyond.next; leads = beyond.leads; goes = beyond.goes })))
  | inr (inr (inr (inl past))) ↦ inr
      (inr (inr (inl (record { removed = past.removed; left = left_as old state other version past.removed past.left; merged = past.merged; next = past.next; leads = past.leads; goes = past.goes }))))
  | inr (inr (inr (inr (inl round)))) ↦ inr
      (inr (inr (inr (inl (record { gone = round.gone; index = round.index; above = round.above; is_above = round.is_above; next = round.next; leads = round.leads; goes = round.goes })))))
  | inr (inr (inr (inr (inr (inl nearer))))) ↦ inr (inr
      (inr (inr (inr (inl (record { removed = nearer.removed; left = level_as old state other version nearer.removed nearer.left; next = nearer.next; leads = nearer.leads; goes = nearer.goes }))))))
  | inr (inr (inr (inr (inr (inr (inl through)))))) ↦ inr (inr (inr (inr (inr (inr (inl (record {
    removed = through.removed;
    left = level_as old state other version through.removed through.left;
    stays = through.stays;
    beside = through.beside;
    next = through.next;
    leads = through.leads;
    goes = through.goes;
  })))))))
  | inr (inr (inr (inr (inr (inr (inr (inl right))))))) ↦ inr (inr (inr (inr
      (inr (inr (inr (inl (record { removed = right.removed; there = merged_as old state other version right.removed right.there; next = right.next; leads = right.leads; goes = right.goes }))))))))
  | inr (inr (inr (inr (inr (inr (inr (inr down))))))) ↦ inr (inr (inr (inr (inr (inr (inr (inr (record {
    removed = down.removed;
    there = merged_as old state other version down.removed down.there;
    ends = down.ends;
    index = down.index;
    next = down.next;
    leads = down.leads;
    goes = down.goes;
  }))))))))
]
treats_as old new state other version (Some Again) t = elim t [
  | inl lost ↦ inl (record { gone = lost.gone; index = lost.index; lacks = lost.lacks })
  | inr off ↦ inr (record { removed = off.removed; leg = off.leg; off = off.off })
]
treats_as old new state other version (Some (Removed removed)) t = record { is = t.is; plain = t.plain; gone = t.gone; leaf = t.leaf }
treats_as old new state other version (Some (Leaf leaf)) t = elim t [
  | inl end ↦ inl (record { is = end.is; plain = end.plain; seeks = end.seeks; alive = end.alive; ends = end.ends })
  | inr merged ↦ inr (record { is = merged.is; removed = merged.removed; left = left_as old state other version merged.removed merged.left; merged = merged.merged; stays = merged.stays })
]
treats_as old new state other version (Some (Beside left removed)) t = record { is = t.is; at_left = left_as old state other version removed t.at_left; beside = t.beside; stays = t.stays }
