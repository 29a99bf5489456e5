-- What an answer makes of a change in its place.
use Rattle.op_machine.proofs.Words.{◌≡◌, ℕ, Option, Some, None, refl, Answer, Record, Fits, Knowledge, learn, Recalled, TakesFresh, limbo_after, HaveRoom, Spares, End, one_round, ended_with}
use Rattle.op_machine.proofs.Words.{IsInChange, Task, TurnsInto, Then}
use Rattle.std.specs.Prelude.{IfNone}
use Rattle.change_machine.specs.Bounded as bound
use Rattle.change_machine.specs.Changes as change
use Rattle.op_machine.specs.machine.Outcomes.{UnlinksAfter, change_out}
use Rattle.op_machine.specs.machine.States as at
use Rattle.op_machine.proofs.Changing.{change_ended, change_left, change_on, ended_left, taken_apart}
use Rattle.op_machine.proofs.TakingOut.{unlinks}

module _ (old new : change.Change) (then : Then) (had has : Spares) (told : Answer Record) where
  abbrev last : Knowledge → Knowledge
  last k = learn k (change.wanted_step old had) told

  abbrev pub Follows : Option End → Type 0
  Follows end = (actor : ℕ) (k : Knowledge) → change.Shows actor old had k → Fits old.limits k (change.wanted_step old had) told → change.Follows actor k (last k) old told new has end

  -- the change has the limits of its task
  fits_own : (task : Task) (k : Knowledge) → old.limits ≡ task.limits → Fits task.limits k (change.wanted_step old had) told → Fits old.limits k (change.wanted_step old had) told
  fits_own task k same fits = rw (← same) at fits

  -- it goes on, or has ended
  pub changes_into : (end : Option End) → Follows end → IfNone end (change.IsSoundChange new has) → change.IsMade new has → HaveRoom old.limits has
      → change.IsSameChange old new → bound.IsPidFrom had.pid (bound.pid_taken (change.wanted_step old had) told) has.pid → bound.Spends old had told new has end
      → TurnsInto (at.Change old then) had told (at.Change new then) has (change_out (ended_with then end))
  changes_into None follows sound made room same pid spends = record {
    comes = λ task k r h fits.
        let goes = follows task.actor k h.shows (fits_own task k h.limits fits) in
        let apart = taken_apart task had has k r old new then told h fits pid in
        let spent = spends (one_round task.limits) r h.recalls apart in
        (change_on task had has k r old new then told h fits pid same sound made goes spent.0, refl);
    leaves = λ task k r h fits.
        let apart = taken_apart task had has k r old new then told h fits pid in
        change_left task had has k r old new then told h fits pid (spends (one_round task.limits) r h.recalls apart);
  }
  changes_into (Some end) follows sound made room same pid spends = record {
    comes = λ task k r h fits. change_ended task had has k r old new then told h fits pid end room (follows task.actor k h.shows (fits_own task k h.limits fits));
    leaves = λ task k r h fits.
        let apart = taken_apart task had has k r old new then told h fits pid in
        ended_left task had has k r old new then told h fits pid end (spends (one_round task.limits) r h.recalls apart);
  }

  -- what is known to be in limbo then
  pub unlinks_into : (end : Option End) → ((actor : ℕ) (k : Knowledge) → change.Shows actor old had k → Fits old.limits k (change.wanted_step old had) told
      → (last k).limbo ≡ limbo_after old.plan end k)
      → ((actor : ℕ) (k : Knowledge) → change.Shows actor old had k → Fits old.limits k (change.wanted_step old had) told → TakesFresh old.limits k old.plan end)
      → (task : Task) (k : Knowledge) (r : Recalled) → IsInChange task had k r old then → Fits task.limits k (change.wanted_step old had) told
      → UnlinksAfter task.limits k (ended_with then end) (last k).limbo
  unlinks_into None limbo fresh task k r h fits = limbo task.actor k h.shows (fits_own task k h.limits fits)
  unlinks_into (Some end) limbo fresh task k r h fits =
      rw (← h.limits) (unlinks old.limits k task.command old.plan end then (last k).limbo h.brings (limbo task.actor k h.shows (fits_own task k h.limits fits))
      (fresh task.actor k h.shows (fits_own task k h.limits fits)))
