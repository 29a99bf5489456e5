-- The pages at which a reader's round looks were read, and their records are there.
use Rattle.rounds.proofs.Words.{◌≡◌, ℕ, List, Option, Some, Limits, Answer, Record, IsReadPage, Version, IsToldThere, Round, above_of, machine}
use Rattle.std.specs.Prelude.{IfSome}
use Rattle.std.proofs.lemmas.Option.{IfSome_then, same_Some}
use Rattle.traces.specs.discipline.Knowledge.{Knowledge, learn}
use Rattle.traces.specs.discipline.Recalled.{Recalled, recall}
use Rattle.round_model.specs.Descents.{Finds, WayState}
use Rattle.round_model.specs.Machines.{AreThere}
use Rattle.round_model.specs.ReadGoals.{ReadGoal, Seek, Left, Beyond}
use Rattle.round_model.specs.ReadLegs.{Leg, Down, Past}
use Rattle.round_model.specs.ReadRounds.{ReadRound, at, reading}
use Rattle.round_model.specs.Visits as page
use Rattle.round_model.specs.Visits.{Whole}
use Rattle.round_model.specs.Walks.{HasArrived}
use Rattle.round_model.proofs.Passing.{IsOver, Passed}
use Rattle.round_model.proofs.Reading.{HasRead, whole}
use Rattle.round_model.proofs.SeenPages.{seen_is_read}
use Rattle.round_model.proofs.Seeking.{hand}
use Rattle.rounds.specs.ReadRounds.{AreReadFor, IsReadGoal, IsReadLeg}

module _ (is_there : ℕ → Record → Type 0) where
  module _ (limits : Limits) (key : List ℕ) (k now : Knowledge) (r : Recalled) (version : Version) (there : AreThere is_there now) where
    page_is_read : (level : ℕ) (low : List ℕ) (earlier : List ℕ) → HasArrived limits k now r version level low earlier → IsReadPage is_there version
    page_is_read level low earlier arrives = seen_is_read is_there now version (hand limits k now r version level low earlier arrives).seen there

    goal_is_read : (goal : ReadGoal) → Passed limits key k now version goal → IsReadGoal is_there goal
    goal_is_read Seek passed = tt
    goal_is_read (Left removed) passed = seen_is_read is_there now removed passed.gone.page.in_hand.seen there
    goal_is_read Beyond passed = tt

    above_is_read : (goal : ReadGoal) (level : ℕ) (earlier : List ℕ) (above : Option Version) → IfSome above (IsOver limits k now goal version.pid level earlier) → IfSome above (IsReadPage is_there)
    above_is_read goal level earlier above over = IfSome_then above over (λ other i. seen_is_read is_there now other i.above_is.in_hand.seen there)

    by_leg : (goal : ReadGoal) (leg : Leg) → HasRead limits key goal leg k now r version → IsReadPage is_there version × IsReadGoal is_there goal × IsReadLeg is_there leg
    by_leg goal (Down above) d = (page_is_read d.level d.low d.earlier d.arrives, goal_is_read goal d.passed, above_is_read goal d.level d.earlier above d.leg_was.1)
    by_leg goal (Round removed) d =
        let n = d.nears in
        (page_is_read n.level n.low n.earlier n.arrives, goal_is_read goal d.passed, seen_is_read is_there now removed n.passed.gone.page.in_hand.seen there)
    by_leg goal (Past above) d = (page_is_read d.level d.low d.earlier d.arrives, goal_is_read goal d.passed, above_is_read goal d.level d.earlier above d.leg_was.1)

  -- the page that is whole, and those that the round keeps
  pub are_read : (old : ReadRound) (other : WayState) (told : Answer Record) (version : Version) → Finds (reading.way old) told (Whole version)
      → IsToldThere is_there (machine reading) old told → AreReadFor is_there (at old other) version
  are_read old other told version b t =
      let visit = b.visit in
      let h = rw b.asked at t.shows in
      let f = rw b.asked at t.fits in
      let now : Knowledge = learn t.k (page.wanted_step visit) told in
      let there : AreThere is_there now = rw b.asked at t.there in
      let d = by_leg old.limits old.key t.k now (recall t.r (page.wanted_step visit) told) version there old.goal old.leg
      (whole old.limits old.key old.goal t.k t.r visit told f old.leg h version b.responds) in
      record { page = d.0; aside = d.1; leg = d.2 }

  -- the page above is there
  pub above_read : (leg : Leg) (above : Version) → above_of leg ≡ Some above → IsReadLeg is_there leg → IsReadPage is_there above
  above_read (Down (Some page)) above e read = rw (same_Some _ _ e) at read
  above_read (Past (Some page)) above e read = rw (same_Some _ _ e) at read
  above_read other above e read = cc

  -- so is the page that a round goes round
  pub round_read : (leg : Leg) (removed : Version) → leg ≡ Round removed → IsReadLeg is_there leg → IsReadPage is_there removed
  round_read leg removed e read = rw e at read
