-- The pages at which a writer's round looks were read, and their records are there.
use Rattle.rounds.proofs.Words.{◌≡◌, ℕ, List, refl, Answer, Content, Record, Version, IsTold, IsToldThere, machine, writing, PlacedDescent, PlacedWrite}
use Rattle.std.proofs.lemmas.Bool.{eq-eqb}
use Rattle.std.proofs.lemmas.Option.{IfSome_then}
use Rattle.bw_model.specs.declared.step.Step.TheVariants as step
use Rattle.traces.specs.discipline.Knowledge.{Knowledge, learn}
use Rattle.traces.specs.discipline.Recalled.{recall}
use Rattle.round_model.specs.Courses.{WriteGoal, Seek, Left, Merge, Unterm}
use Rattle.round_model.specs.Descents.{Finds, WayState}
use Rattle.round_model.specs.Machines.{AreThere, Machine}
use Rattle.round_model.specs.Visits as page
use Rattle.round_model.specs.Visits.{Whole}
use Rattle.round_model.specs.WriteRounds.{WriteRound, at}
use Rattle.round_model.proofs.Keeping.{Passed, reached_next}
use Rattle.round_model.proofs.SeenPages.{seen_is_read}
use Rattle.round_model.proofs.Seeking.{hand}
use Rattle.rounds.specs.WriteRounds.{AreReadToWrite, IsGoalRead}
use Rattle.rounds.specs.declared.descents.SightKind.TheVariants as seen
use Rattle.rounds.proofs.WriteSeeing.{Moved, after}

module _ (is_there : ℕ → Record → Type 0) where
  module _ {At : Type 0} (machine : Machine At) (at : At) where
    pub is_told : (told : Answer Record) → IsToldThere is_there machine at told → IsTold machine at told
    is_told told t = record { k = t.k; r = t.r; shows = t.shows; fits = t.fits }

    -- the record that was read now
    pub read_now : (row : ℕ) (content : Record) → machine.wanted at ≡ step.Row row → IsToldThere is_there machine at (Content content) → is_there row content
    read_now row content asked t =
        let there : AreThere is_there (learn t.k (step.Row row) (Content content)) = rw asked at t.there in
        there row content (rw (eq-eqb row row refl) refl)

  -- the page that is whole, and those that the round keeps
  module _ (old : WriteRound) (other : WayState) (told : Answer Record) (version : Version) where
    goal_is_read : (k now : Knowledge) (earlier : List ℕ) (goal : WriteGoal) → AreThere is_there now → Passed old.limits old.key old.floor k now version.pid earlier goal → IsGoalRead is_there goal
    goal_is_read k now earlier Seek there passed = tt
    goal_is_read k now earlier (Left pid) there passed = tt
    goal_is_read k now earlier (Merge left) there passed = seen_is_read is_there now left passed.in_hand.seen there
    goal_is_read k now earlier (Unterm parent left) there passed = (seen_is_read is_there now parent passed.above.in_hand.seen there, seen_is_read is_there now left passed.aside.in_hand.seen there)

    pub are_read : Finds (writing.way old) told (Whole version) → IsToldThere is_there (machine writing) old told → AreReadToWrite is_there (at old other) version
    are_read b t =
        let visit = b.visit in
        let h = rw b.asked at t.shows in
        let f = rw b.asked at t.fits in
        let now : Knowledge = learn t.k (page.wanted_step visit) told in
        let there : AreThere is_there now = rw b.asked at t.there in
        let d = reached_next old.limits old.key old.floor old.splits old.goal old.parent old.left t.k t.r visit told h f version b.responds in
        record {
          page = seen_is_read is_there now version (hand old.limits t.k now (recall t.r (page.wanted_step visit) told) version d.level d.low d.earlier d.arrives).seen there;
          parent = IfSome_then old.parent d.above (λ other i. seen_is_read is_there now other i.kept.in_hand.seen there);
          left = IfSome_then old.left d.aside (λ other i. seen_is_read is_there now other i.kept.in_hand.seen there);
          goal = goal_is_read t.k now d.earlier old.goal there d.passed;
        }

  -- so are they for the round with its descent as the answer left it
  pub reads_now : (was : PlacedWrite) (now : PlacedDescent) (told : Answer Record) → Moved was now told seen.Whole
      → IsToldThere is_there (machine writing) was.round told → AreReadToWrite is_there (after was now).round now.page
  reads_now was now told b t =
      let read = are_read was.round now.way.state told now.page b t in
      record { page = read.page; parent = read.parent; left = read.left; goal = read.goal }
