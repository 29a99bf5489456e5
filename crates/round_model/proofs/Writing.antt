-- What an answer leaves a writer's round.
use Rattle.round_model.proofs.Words.{◌∙◌, ◌≡◌, ◌≢◌, ◌<◌, ◌+◌, inl, inr, ℕ, List, [], Bool, true, false, Option, Some, None, refl, sym, arith, IsTrue, IfSome_then, Limits, Answer}
use Rattle.round_model.proofs.Words.{Record, is_removed, low_in, Fits, Knowledge, learn, Recalled, recall, Version, DueChange, WriteEnd, Sight, Slot, Empty, Whole, IsSeeking}
use Rattle.round_model.proofs.Words.{reads_left_at, reads_left_in, with_walk, precedes, reaches, IsTold}
use Rattle.bw_model.specs.declared.step.Step.TheVariants as step
use Rattle.bw_model.specs.declared.step.Answer.TheVariants as answer
use Rattle.round_model.specs.Courses.{WriteGoal, Seek, Left, Merge, Unterm}
use Rattle.round_model.specs.WriteEnds as end
use Rattle.round_model.specs.Descents.{WayState, Root, Page, Finds, Shows as WayShows}
use Rattle.round_model.specs.Visits as page
use Rattle.round_model.specs.WriteRounds.{BeginsToWrite, IsMissing, KeepsToWrite, MissesWrite, is_cutting, write_round_kept, write_way, VisitsToWrite, Shows, Spends, WriteRound, at, wanted_step}
use Rattle.round_model.specs.Rounds.{CanSee, Follows, Responds, Sees, machine}
use Rattle.round_model.specs.WriteResponses.{CanMeetGoal, IsHere, IsAtLeft, IsTended, TreatsWrite, writing, EndsBy}
use Rattle.round_model.proofs.Lost.{found_nothing}
use Rattle.round_model.proofs.Holding.{in_hand_as}
use Rattle.round_model.proofs.Keeping.{Passed, reached_next, visits_next}
use Rattle.round_model.proofs.PageLaws.{above_empty}
use Rattle.round_model.proofs.Seeking.{reached, seeks_root}
use Rattle.round_model.proofs.Responding.{by_step}
use Rattle.round_model.proofs.Spending.{left_empty, left_on, left_removed, left_some, spent_empty, spent_on, still}
use Rattle.round_model.proofs.Walking.{not_itself}
use Rattle.round_model.proofs.WayLaws.{lowest}
use Rattle.round_model.proofs.Treating.{After, treated}

abbrev Then : WriteRound → Option WriteEnd → WriteRound → Answer Record → Type 0
Then new result old told = (k : Knowledge) (r : Recalled) → Shows old k r → Fits old.limits k (wanted_step old) told → Follows writing k r old told new result

abbrev Pays : WriteRound → Option WriteEnd → WriteRound → Answer Record → Type 0
Pays new result old told = (reserve kept : ℕ) (k : Knowledge) (r : Recalled) → Shows old k r → Fits old.limits k (wanted_step old) told → Spends reserve kept r old told new result

module _ (old new : WriteRound) (told : Answer Record) (visit : page.Visit) where
  abbrev here : WriteRound
  here = at old (Page visit)

  seen : (next : page.Visit) (sight : Sight) (result : Option WriteEnd) → page.Responds visit told next (Some sight) → Sees writing here sight new result → Then new result here told
  seen next Empty result b sees = rw sees (λ k r h f. inl (found_nothing r visit told b))
  seen next (Whole version) result b sees = λ k r h f.
      by_result k r result (treated here k (learn k (page.wanted_step visit) told) (recall r (page.wanted_step visit) told) version
      (reached_next old.limits old.key old.floor old.splits old.goal old.parent old.left k r visit told h f version b) new result sees)
    where
      by_result : (k : Knowledge) (r : Recalled) (o : Option WriteEnd)
          → After here (learn k (page.wanted_step visit) told) (recall r (page.wanted_step visit) told) new o → Follows writing k r here told new o
      by_result k r None a = a
      by_result k r (Some end) a = a

  module _ (reserve kept : ℕ) (k : Knowledge) (r : Recalled) (h : VisitsToWrite old.limits old.key old.floor old.splits old.goal old.parent old.left k r visit)
      (f : Fits old.limits k (page.wanted_step visit) told) where
    -- a page wasn't there
    missed : page.FindsEmpty visit told → (goal : WriteGoal) → IsSeeking old.limits (write_way goal old.key) (is_cutting goal) k r visit h.level h.low h.earlier
        → MissesWrite reserve kept r (record here { goal = goal }) told goal
    missed b Seek seeks = spent_empty reserve old.limits (reaches old.key) false k r visit h.level h.low h.earlier told seeks f refl b
    missed b (Left removed) seeks = inl (spent_empty reserve old.limits (precedes old.key) false k r visit h.level h.low h.earlier told seeks f refl b)
    missed b (Merge left) seeks = spent_empty reserve old.limits (reaches old.key) false k r visit h.level h.low h.earlier told seeks f refl b
    missed b (Unterm parent left) seeks = let some = left_empty reserve old.limits (reaches old.key) true k r visit h.level h.low h.earlier told seeks f b in omega (arith, some)

    -- a page was read whole
    module _ (version : Version) (b : page.Completes visit told version) where
      abbrev way_here : List ℕ → Bool
      way_here = write_way old.goal old.key

      less : is_removed version.chain ≡ false → reads_left_at old.limits reserve (recall r (page.wanted_step visit) told).walk [] Slot < reads_left_in old.limits reserve r visit
      less = left_on reserve old.limits way_here (is_cutting old.goal) k r visit h.level h.low h.earlier told h.seeks f version b

      more : is_removed version.chain ≡ false → (goal : WriteGoal) → old.goal ≡ goal
          → reads_left_at old.limits reserve (recall r (page.wanted_step visit) told).walk [] Slot + write_round_kept kept goal < reads_left_in old.limits
          reserve r visit + write_round_kept kept old.goal
      more alive goal e = let l = less alive in rw e (omega (arith, l))

      some_left : write_round_kept kept old.goal < reads_left_in old.limits reserve r visit + write_round_kept kept old.goal
      some_left = let some = left_some reserve old.limits way_here (is_cutting old.goal) k r visit h.level h.low h.earlier told h.seeks f version b in omega (arith, some)

      keeps : (goal : WriteGoal) → old.goal ≡ goal → write_round_kept kept goal ≡ kept → kept < reads_left_in old.limits reserve r visit + write_round_kept kept old.goal
      keeps goal e is = let some = left_some reserve old.limits way_here (is_cutting old.goal) k r visit h.level h.low h.earlier told h.seeks f version b in rw e (rw is (omega (arith, some)))

      by_result : (o : Option WriteEnd) → TreatsWrite here version new o → Spends reserve kept r here told new o
      by_result None t = elim t [
        | inl right ↦ rw right.goes (inl (more right.alive old.goal refl))
        | inr (inl down) ↦ rw down.goes (inl (more down.here.alive old.goal refl))
        | inr (inr (inl merge)) ↦ rw merge.goes (inl (more merge.left.here.alive (Left merge.pid) merge.left.goal))
        | inr (inr (inr cut)) ↦ rw cut.goes (inl (more cut.left.here.alive (Left cut.pid) cut.left.goal))
      ]
      by_result (Some end.Again) t = missed_below old.goal t.goal
        where
          missed_below : (goal : WriteGoal) → goal ≡ Left t.pid → MissesWrite reserve kept r here told goal
          missed_below Seek e = cc
          missed_below (Left pid) e = inr ((λ empty. (let clash : answer.Content b.content ≡ answer.Number 0 = sym b.is ∙ empty in cc)), keeps (Left t.pid) t.goal refl)
          missed_below (Merge left) e = cc
          missed_below (Unterm parent left) e = cc
      by_result (Some end.Done) t = elim t [
        | inl clean ↦ keeps (Left clean.pid) clean.left.goal refl
        | inr (inl unmerged) ↦ keeps (Merge unmerged.left) unmerged.goal refl
        | inr (inr uncut) ↦ keeps (Unterm uncut.parent uncut.left) uncut.goal refl
      ]
      by_result (Some (end.Removed removed)) t =
          let some = left_removed reserve old.limits way_here (is_cutting old.goal) k r visit h.level h.low h.earlier told h.seeks f version b t.gone in
          omega (arith, some)
      by_result (Some (end.Due plan after)) t = some_left
      by_result (Some (end.Leaf parent leaf)) t = some_left

  paid : (next : page.Visit) (sight : Sight) (result : Option WriteEnd) → page.Responds visit told next (Some sight) → Sees writing here sight new result → Pays new result here told
  paid next Empty result b sees = rw sees (λ reserve kept k r h f. missed reserve kept k r h f b old.goal h.seeks)
  paid next (Whole version) result b sees = λ reserve kept k r h f. by_result reserve kept k r h f version b result sees

module _ (limits : Limits) (key : List ℕ) (floor : ℕ) (splits : Bool) (k : Knowledge) (r : Recalled) (pid : ℕ) (fits : Fits limits k (step.Slot 0) (answer.Number pid)) where
  abbrev begun : Knowledge
  begun = learn k (step.Slot 0) (answer.Number pid)

  first_on_way : (goal : WriteGoal) → BeginsToWrite limits key floor k goal → IsTrue (write_way goal key [])
  first_on_way Seek b = lowest key
  first_on_way (Left removed) b = rw b.low at (above_empty b.removed.chain b.gone.in_hand.sound.is_chain.fitted b.gone.gone)
  first_on_way (Merge left) b = absurd b
  first_on_way (Unterm parent left) b = absurd b

  -- the removed page isn't the root, which begins at the empty key
  not_root : (removed : ℕ) → IsMissing limits k key floor removed [] → removed ≢ pid
  not_root removed b e =
      let hand = b.gone.in_hand in
      let first : low_in b.removed.chain ≡ [] = fits.2 b.removed.head b.removed.chain (rw (sym (b.is ∙ e)) hand.seen.head) hand.seen.read in
      not_itself [] (rw first at (above_empty b.removed.chain hand.sound.is_chain.fitted b.gone.gone))

  keeps_first : (goal : WriteGoal) → BeginsToWrite limits key floor k goal → KeepsToWrite limits key floor begun pid [] goal
  keeps_first Seek b = tt
  keeps_first (Left removed) b =
      let hand = b.gone.in_hand in
      record {
        removed = b.removed;
        gone = record { in_hand = in_hand_as begun hand hand.seen.head hand.seen.read; gone = b.gone.gone };
        is = b.is;
        low = b.low;
        level = b.level;
        unread = (not_root removed b, tt);
      }
  keeps_first (Merge left) b = absurd b
  keeps_first (Unterm parent left) b = absurd b

  root : (goal : WriteGoal) (parent left : Option Version) → parent ≡ None → left ≡ None → k.inside ≡ true → BeginsToWrite limits key floor k goal
      → VisitsToWrite limits key floor splits goal parent left begun (recall r (step.Slot 0) (answer.Number pid)) (page.to_page limits pid)
  root goal parent left orphan alone inside b = rw (orphan, alone) (record {
    level = 0;
    low = [];
    earlier = [];
    seeks = seeks_root limits (write_way goal key) (is_cutting goal) k r pid (first_on_way goal b) fits inside;
    above = tt;
    aside = tt;
    based = inl refl;
    led = λ so on. refl;
    keeps = keeps_first goal b;
  })

-- what follows from what a round makes of an answer

pub follows_from : (old new : WriteRound) (told : Answer Record) (result : Option WriteEnd) → Responds writing old told new result
    → (k : Knowledge) (r : Recalled) → Shows old k r → Fits old.limits k (wanted_step old) told → Follows writing k r old told new result
follows_from old new told result responds = by_step writing (λ round. refl) (λ o x n e. Then n e o x) old new told result responds
    (λ pid k r h f. root old.limits old.key old.floor old.splits k r pid f old.goal old.parent old.left h.1 h.2 h.0 h.3)
    (λ visit next b k r h f. visits_next old.limits old.key old.floor old.splits old.goal old.parent old.left k r visit told h f next b)
    (λ visit next sight b sees. seen old new told visit next sight result b sees)

pub spends_from : (old new : WriteRound) (told : Answer Record) (result : Option WriteEnd) → Responds writing old told new result
    → (reserve kept : ℕ) (k : Knowledge) (r : Recalled) → Shows old k r → Fits old.limits k (wanted_step old) told → Spends reserve kept r old told new result
spends_from old new told result responds = by_step writing (λ round. refl) (λ o x n e. Pays n e o x) old new told result responds
    (λ pid reserve kept k r h f. inl (omega arith))
    (λ visit next b reserve kept k r h f.
    still (with_walk old.limits reserve) r (page.wanted_step visit) told _ _ (write_round_kept kept old.goal)
    (spent_on reserve old.limits (write_way old.goal old.key) (is_cutting old.goal) k r visit h.level h.low h.earlier told h.seeks f next b))
    (λ visit next sight b sees. paid old new told visit next sight result b sees)

-- what the round shows, its descent does
pub way_shows : (round : WriteRound) (k : Knowledge) (r : Recalled) → Shows round k r → WayShows (writing.way round) k
way_shows round k r h = by_state round.state refl
  where
    by_state : (state : WayState) → round.state ≡ state → WayShows (writing.way round) k
    by_state Root e = rw e ((rw e at h).0)
    by_state (Page visit) e = let here : VisitsToWrite round.limits round.key round.floor round.splits round.goal round.parent round.left k r visit = rw e at h in rw e here.seeks.on_way.shows

-- the page that was found is one that the round has reached
pub can_see : (old : WriteRound) (other : WayState) (told : Answer Record) (sight : Sight) → Finds (writing.way old) told sight
    → IsTold (machine writing) old told → CanSee writing (at old other) sight
can_see old other told Empty b t = tt
can_see old other told (Whole version) b t =
    let visit = b.visit in
    let h = rw b.asked at t.shows in
    let f = rw b.asked at t.fits in
    let d = reached_next old.limits old.key old.floor old.splits old.goal old.parent old.left t.k t.r visit told h f version b.responds in
    record {
      reached = reached old.limits t.k (learn t.k (page.wanted_step visit) told)
          (recall t.r (page.wanted_step visit) told) version d.level d.low d.earlier d.arrives (write_way old.goal old.key) d.passing;
      above = IfSome_then old.parent d.above (λ other i. i.kept.alive);
      meets = meets_at t.k (learn t.k (page.wanted_step visit) told) d.earlier old.goal d.passed;
    }
  where
    meets_at : (k now : Knowledge) (earlier : List ℕ) (goal : WriteGoal) → Passed old.limits old.key old.floor k now version.pid earlier goal → CanMeetGoal old.limits goal
    meets_at k now earlier Seek p = tt
    meets_at k now earlier (Left pid) p = (rw p.1.is at p.1.removed.is_pid.0, rw p.1.is at p.1.gone.in_hand.page)
    meets_at k now earlier (Merge left) p = tt
    meets_at k now earlier (Unterm parent left) p = p.above.alive

-- what a round does with a page doesn't depend on the state that it had

module _ (old : WriteRound) (state other : WayState) (version : Version) where
  here_as : IsHere (at old other) version → IsHere (at old state) version
  here_as h = record { seeks = h.seeks; alive = h.alive; finished = h.finished; stays = h.stays }

  left_as : (pid : ℕ) → IsAtLeft (at old other) version pid → IsAtLeft (at old state) version pid
  left_as pid h = record { goal = h.goal; here = here_as h.here; fine = h.fine; level = h.level }

  tended_as : (parent : Version) → IsTended (at old other) parent version → IsTended (at old state) parent version
  tended_as parent h = record { tends = h.tends; seeks = h.seeks; above = h.above; index = h.index }

  ends_as : (change : DueChange) → EndsBy (at old other) version change → EndsBy (at old state) version change
  ends_as (end.Consolidate page base) t = record { is = t.is; here = here_as t.here; long = t.long; plan = t.plan }
  ends_as (end.Split page plan) t = record { is = t.is; here = here_as t.here; short = t.short; plan_due = t.plan_due }
  ends_as (end.Term parent term) t = record { seeks = t.seeks; above = t.above; left = t.left; aside = t.aside; plan = t.plan }
  ends_as (end.Root left root) t = record { seeks = t.seeks; above = t.above; aside = t.aside; plan = t.plan }
  ends_as (end.Tend parent page upkeep) t = record { is = t.is; here = here_as t.here; fine = t.fine; tended = tended_as parent t.tended; due = t.due }
  ends_as (end.Merge left removed merge) t = record { is = t.is; goal = t.goal; plan = t.plan }
  ends_as (end.Unterm parent left removed unterm) t = record { is = t.is; goal = t.goal; plan = t.plan }

pub treats_as : (old new : WriteRound) (state other : WayState) (version : Version) (result : Option WriteEnd) → TreatsWrite (at old other) version new result
    → TreatsWrite (at old state) version new result
treats_as old new state other version None t = elim t [
  | inl right ↦ inl (record { seeks = right.seeks; alive = right.alive; finished = right.finished; right = right.right; leads = right.leads; goes = right.goes })
  | inr (inl down) ↦ inr (inl (record {
    here = here_as old state other version down.here;
    fine = down.fine;
    idle = λ parent tended. down.idle parent
        (tended_as old other state version parent tended);
    index = down.index;
    child = down.child;
    leads = down.leads;
    goes = down.goes;
  }))
  | inr (inr (inl merge)) ↦ inr (inr (inl (record { pid = merge.pid; left = left_as old state other version merge.pid merge.left; beside = merge.beside; roomy = merge.roomy; goes = merge.goes })))
  | inr (inr (inr cut)) ↦ inr
      (inr (inr (record { pid = cut.pid; left = left_as old state other version cut.pid cut.left; apart = cut.apart; parent = cut.parent; above = cut.above; term = cut.term; goes = cut.goes })))
]
treats_as old new state other version (Some end.Again) t = record { pid = t.pid; goal = t.goal; here = here_as old state other version t.here; fine = t.fine; below = t.below }
treats_as old new state other version (Some end.Done) t = elim t [
  | inl clean ↦ inl (record { pid = clean.pid; left = left_as old state other version clean.pid clean.left; apart = clean.apart; lacks = clean.lacks })
  | inr (inl unmerged) ↦ inr (inl (record { left = unmerged.left; goal = unmerged.goal; none = unmerged.none }))
  | inr (inr uncut) ↦ inr (inr (record { parent = uncut.parent; left = uncut.left; goal = uncut.goal; none = uncut.none }))
]
treats_as old new state other version (Some (end.Removed removed)) t = record { is = t.is; seeks = t.seeks; gone = t.gone }
treats_as old new state other version (Some (end.Due plan after)) t = record { change = t.change; planned = t.planned; due = ends_as old state other version t.change t.due }
treats_as old new state other version (Some (end.Leaf parent leaf)) t = record
    { is = t.is; seeks = t.seeks; above = t.above; here = here_as old state other version t.here; fine = t.fine; level = t.level }
