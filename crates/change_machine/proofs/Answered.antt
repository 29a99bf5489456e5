-- What follows from an answer, whatever the state.
use Rattle.change_machine.proofs.Words.{arith, ◌≤◌, ◌≡◌, ℕ, Bool, true, false, Option, refl, Limits, Answer, Record, Fits, Knowledge, learn, Change, Follows, IsSameChange, IsSoundChange, near_after}
use Rattle.change_machine.proofs.Words.{IsTarget, Shows, linked_number, needed_from, wanted_step, wanted_at, head_of, needs_pid, slot_of, Moved, decided_by, next_move, whether_in, Spares, End}
use Rattle.change_machine.proofs.Words.{State, Plan, kind_of, Kind, Pid, Row}
use Rattle.bw_model.specs.declared.step.Answer.TheVariants as answer
use Rattle.change_machine.specs.declared.change.State.TheVariants as state
use Rattle.change_machine.proofs.Clearing.{cleared_so}
use Rattle.change_machine.specs.Taking.{least_word}
use Rattle.change_machine.proofs.RowNeeds.{wanted_there}
use Rattle.change_machine.proofs.Following.{base_placed, lost_bare, lost_ready, may_link, record_placed, slot_set, undone}
use Rattle.change_machine.proofs.Learning.{went}
use Rattle.change_machine.proofs.Taken.{finds}
use Rattle.change_machine.proofs.Winning.{won_at}
use Rattle.change_machine.proofs.Making.{bare, bare_at, follows_bare, shows_bare, sound_bare}

-- the word from which on a number is looked for is none behind the first one of those that do for each need
low_from : (limits : Limits) (plan : Plan) (spares : Spares) (kind : Kind) → needed_from limits plan spares kind ≤ least_word limits kind
low_from limits plan spares Pid = omega arith
low_from limits plan spares Row = (wanted_there limits plan spares.rows).2

module _ (actor : ℕ) (limits : Limits) (k : Knowledge) (plan : Plan) (spares : Spares) (near : ℕ) where
  abbrev change : State → Change
  change state = bare_at limits plan state

  -- what follows where the change goes on so
  abbrev pub FollowsTo : State → Answer Record → Moved → Type 0
  FollowsTo state told now = Follows actor k (learn k (wanted_at limits plan spares state) told) (change state) told (change now.state) now.spares now.end

  decided : (won : Bool) → IsSoundChange (change state.Link) spares → IsTarget limits plan → Shows actor (change state.Link) spares k
      → Fits limits k (wanted_at limits plan spares state.Link) (answer.Whether won) → FollowsTo state.Link (answer.Whether won) (decided_by plan spares won)
  decided true sound target h fits =
      let may = may_link actor limits k plan spares sound.room sound.state h.may h.keeps h.are target h.stands.0 h.stands.1 in
      won_at actor limits k spares sound.room h.are plan sound.state target h.may h.keeps may h.stands.0 h.stands.1 fits
  decided false sound target h fits = lost (needs_pid plan) refl
    where
      lost : (needs : Bool) → needs_pid plan ≡ needs → FollowsTo state.Link (answer.Whether false) (decided_by plan spares false)
      lost true is = rw is (lost_ready actor limits k plan spares sound.room sound.state h.may h.keeps h.are h.stands.0)
      lost false is = rw is (lost_bare actor limits k plan spares sound.room sound.state h.may h.keeps h.are is h.stands.0)

  follows_at : (state : State) (told : Answer Record) → IsSoundChange (change state) spares → IsTarget limits plan → Shows actor (change state) spares k
      → Fits limits k (wanted_at limits plan spares state) told → FollowsTo state told (next_move limits plan spares near state told)
  follows_at (state.Taking taking) told sound target h fits = finds actor limits k plan spares (near_after near taking told) h.may h.keeps h.are h.stands.0 taking told sound.state.1
      (rw sound.state.2 (low_from limits plan spares (kind_of taking))) h.stands.1 fits
  follows_at state.Base told sound target h fits = base_placed actor limits k plan spares sound.room sound.state.0 h.may h.keeps h.are told sound.state.1 h.stands
  follows_at state.Ready told sound target h fits = slot_set actor limits k plan spares sound.room sound.state.0 h.may h.keeps h.are told sound.state.1 h.stands.0 h.stands.1 fits
  follows_at state.Place told sound target h fits = record_placed actor limits k plan spares sound.room sound.state.0 h.may h.keeps h.are told sound.state.1 h.stands
  follows_at state.Link told sound target h fits =
      let is = went k limits (slot_of plan) (head_of plan) (linked_number limits plan spares) told fits in
      rw is (decided (whether_in told) sound target h (rw is at fits))
  follows_at state.Undo told sound target h fits = undone actor limits k plan spares sound.room sound.state.0 h.may h.keeps h.are told sound.state.1 h.stands fits
  follows_at state.Clear told sound target h fits = cleared_so actor limits k spares plan told sound.state target h fits

-- the same of a change that has gone on so
module _ (old new : Change) (had has : Spares) (told : Answer Record) (end : Option End)
    (is : next_move old.limits old.plan had old.near old.state told ≡ record { state = new.state; spares = has; end = end }) (same : IsSameChange old new) where
  pub only_state : bare new ≡ bare (record old { state = new.state })
  only_state = λ i. bare_at (same.limits i) (same.plan i) new.state

  pub follows : (actor : ℕ) (k : Knowledge) → IsSoundChange old had → IsTarget old.limits old.plan → Shows actor old had k
      → Fits old.limits k (wanted_step old had) told → Follows actor k (learn k (wanted_step old had) told) old told new has end
  follows actor k sound target h fits =
      let at_state = follows_at actor old.limits k old.plan had old.near old.state told (sound_bare old had sound) target (shows_bare actor old had k h) fits in
      follows_bare actor k (learn k (wanted_step old had) told) old told new has end
      (rw only_state (rw is at at_state))
