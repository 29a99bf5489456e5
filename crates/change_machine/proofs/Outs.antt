-- What a change takes out of the tree, whatever the answer.
use Rattle.change_machine.proofs.Words.{◌≡◌, ◌<◌, ℕ, Bool, true, false, Option, refl, Limits, Answer, Record, Fits}
use Rattle.change_machine.proofs.Words.{Knowledge, OwnPage, Other, Written, learn, linked_over, split_to, Change, near_after}
use Rattle.change_machine.proofs.Words.{IsPlaced, IsSoundChange, IsTarget, Shows, StandsReady, linked_number, split_row, wanted_step, wanted_at, clears, head_of, slot_of, next_move, moved_by}
use Rattle.change_machine.proofs.Words.{whether_in, Spares, last_row, pid_of, found_after, wanted_number, End, State, Plan, Install, Root, Unlink, Found, Not, Pid, Row, Bits, Take}
use Rattle.bw_model.specs.declared.step.Answer.TheVariants as answer
use Rattle.bw_model.specs.declared.step.Step.TheVariants as step
use Rattle.deltas.specs.declared.record.Record.TheVariants as kind
use Rattle.traces.specs.discipline.Knowledge.{after_exchange, split_off}
use Rattle.change_machine.specs.Changes.{record_row}
use Rattle.change_machine.specs.Outs.{IsFreshOver, TakesFresh, limbo_after, limbo_over}
use Rattle.change_machine.specs.declared.change.State.TheVariants as state
use Rattle.structure_changes.specs.declared.plan.Plan.TheVariants.{Split}
use Rattle.change_machine.specs.declared.taking.Taking.{Taking}
use Rattle.change_machine.proofs.Following.{record_is, set_learnt, undo_learnt}
use Rattle.change_machine.proofs.Learning.{clear_fresh, clear_went, cleared_learnt, over_fresh, over_learnt, over_other, rooted_learnt, went}
use Rattle.change_machine.proofs.Making.{bare_at, shows_bare, sound_bare}

-- what is taken out by a change that ended so, or goes on
pub record TakesOut (limits : Limits) (k now : Knowledge) (plan : Plan) (end : Option End) : Type 0 where
  pub limbo : now.limbo ≡ limbo_after plan end k
  pub fresh : TakesFresh limits k plan end

module _ (k : Knowledge) where
  split_limbo : (o : OwnPage) (page row : ℕ) → (split_off o page row k).limbo ≡ k.limbo
  split_limbo Other page row = refl
  split_limbo other page row = refl

  linked_limbo : (content : Record) (old row : ℕ) → (linked_over (Written content) old row k).limbo ≡ limbo_over content old k
  linked_limbo (kind.Split split) old row = split_limbo (k.own.pages split.page) split.page row
  linked_limbo other old row = refl

  -- a taking takes nothing out
  number_limbo : (taking : Taking) (told : Answer Record) → (learn k (wanted_number taking) told).limbo ≡ k.limbo
  number_limbo (Bits Pid from word whole) answer.Start = refl
  number_limbo (Bits Row from word whole) answer.Start = refl
  number_limbo (Take Pid from number whole) (answer.Whether true) = refl
  number_limbo (Take Row from number whole) (answer.Whether true) = refl
  number_limbo taking told = refl

  module _ (limits : Limits) where
    fresh_over : (content : Record) (page old new : ℕ) → 0 < page → 0 < old → 0 < new → Fits limits k (step.Exchange page old new) (answer.Whether true)
        → IsFreshOver limits k content old
    fresh_over (kind.Base base) page old new p o n fits = over_fresh k limits page old new p o n fits
    fresh_over other page old new p o n fits = tt

    -- a record was linked over a page's newest row
    linked_outs : (page old new : ℕ) (content : Record) → 0 < page → 0 < old → 0 < new → k.own.rows new ≡ Written content → Fits limits k (step.Exchange page old new) (answer.Whether true)
        → (after_exchange page old new k).limbo ≡ limbo_over content old k
    linked_outs page old new content p o n placed fits = rw (over_learnt k page old new content p n (over_other k limits page old new p o n fits) placed) (linked_limbo content old new)

    module _ (plan : Plan) (spares : Spares) (near : ℕ) where
      taking_outs : (now : Knowledge) → now.limbo ≡ k.limbo → (state : State) (found : Found) → TakesOut limits k now plan (moved_by limits plan spares near state found).end
      taking_outs now same state (Not taking) = record { limbo = same; fresh = tt }
      taking_outs now same state other = record { limbo = same; fresh = tt }

      -- what a change takes out where it goes on so
      abbrev pub TakesOutTo : State → Answer Record → Type 0
      TakesOutTo state told = TakesOut limits k (learn k (wanted_at limits plan spares state) told) plan (next_move limits plan spares near state told).end

-- the exchange that decides won
won_outs : (k : Knowledge) (limits : Limits) (plan : Plan) (spares : Spares) (near : ℕ) → 0 < record_row limits plan spares → IsTarget limits plan → StandsReady limits plan spares k.own
    → IsPlaced limits plan spares k.own → Fits limits k (wanted_at limits plan spares state.Link) (answer.Whether true)
    → TakesOutTo k limits plan spares near state.Link (answer.Whether true)
won_outs k limits (Install pid head content) spares near row target ready placed fits = record {
  limbo = linked_outs k limits pid head (last_row spares) content target.page target.linked row placed fits;
  fresh = fresh_over k limits content pid head (last_row spares) target.page target.linked row fits;
}
won_outs k limits (Split pid plan) spares near row target ready placed fits = record
    { limbo = linked_outs k limits pid plan.next (split_row limits.is_large spares) (kind.Split (split_to plan (pid_of spares))) target.page target.linked row placed fits; fresh = tt }
won_outs k limits (Root left root) spares near row target ready placed fits = rw (rooted_learnt k left (pid_of spares) (last_row spares) ready.0) (record { limbo = refl; fresh = tt })
won_outs k limits (Unlink pid head unterm removal) spares near row target ready placed fits = record
    { limbo = linked_outs k limits pid head (last_row spares) (kind.Unterm unterm) target.0.page target.0.linked row placed fits; fresh = tt }

-- it lost
lost_outs : (k : Knowledge) (limits : Limits) (plan : Plan) (spares : Spares) (near : ℕ) → TakesOutTo k limits plan spares near state.Link (answer.Whether false)
lost_outs k limits (Install pid head content) spares near = record { limbo = refl; fresh = tt }
lost_outs k limits other spares near = record { limbo = refl; fresh = tt }

module _ (actor : ℕ) (limits : Limits) (k : Knowledge) (spares : Spares) (near : ℕ) where
  abbrev change : Plan → State → Change
  change plan state = bare_at limits plan state

  decided_outs : (plan : Plan) (won : Bool) → IsSoundChange (change plan state.Link) spares → IsTarget limits plan
      → Shows actor (change plan state.Link) spares k → Fits limits k (wanted_at limits plan spares state.Link) (answer.Whether won)
      → TakesOutTo k limits plan spares near state.Link (answer.Whether won)
  decided_outs plan true sound target h fits =
      let row = (record_is actor limits k plan spares sound.room sound.state h.may h.keeps h.are).1 in
      won_outs k limits plan spares near row target h.stands.0 h.stands.1 fits
  decided_outs plan false sound target h fits = lost_outs k limits plan spares near

  -- a page whose term is out was cleared
  cleared_outs : (plan : Plan) (told : Answer Record) → clears plan ≡ true → IsTarget limits plan → Shows actor (change plan state.Clear) spares k
      → Fits limits k (wanted_at limits plan spares state.Clear) told
      → TakesOutTo k limits plan spares near state.Clear told
  cleared_outs (Unlink pid head unterm removal) told is target h fits =
      let page = target.1.0 in
      let is_told = clear_went k limits unterm.child removal told page target.2 h.stands.1 h.may.links.1 fits in
      let fresh = clear_fresh k limits unterm.child removal page target.2 h.stands.1 (rw is_told at fits) in
      rw (is_told, cleared_learnt k unterm.child removal page h.stands.1) (record { limbo = refl; fresh = (page, target.1.1, fresh.0, fresh.1) })
  cleared_outs other told is target h fits = cc

  outs_at : (plan : Plan) (state : State) (told : Answer Record) → IsSoundChange (change plan state) spares → IsTarget limits plan
      → Shows actor (change plan state) spares k → Fits limits k (wanted_at limits plan spares state) told
      → TakesOutTo k limits plan spares near state told
  outs_at plan (state.Taking taking) told sound target h fits =
      taking_outs k limits plan spares (near_after near taking told) (learn k (wanted_number taking) told) (number_limbo k taking told) (state.Taking taking) (found_after limits taking told)
  outs_at plan state.Base told sound target h fits = record { limbo = refl; fresh = tt }
  outs_at plan state.Ready told sound target h fits =
      rw (set_learnt actor limits k plan spares sound.room sound.state.0 h.may h.keeps h.are told sound.state.1 h.stands.0 fits) (record { limbo = refl; fresh = tt })
  outs_at plan state.Place told sound target h fits = record { limbo = refl; fresh = tt }
  outs_at plan state.Link told sound target h fits =
      let is = went k limits (slot_of plan) (head_of plan) (linked_number limits plan spares) told fits in
      rw is (decided_outs plan (whether_in told) sound target h (rw is at fits))
  outs_at plan state.Undo told sound target h fits =
      let is = undo_learnt actor limits k plan spares sound.room sound.state.0 h.may h.keeps h.are told sound.state.1 h.stands fits in
      rw (is.0, is.1) (record { limbo = refl; fresh = tt })
  outs_at plan state.Clear told sound target h fits = cleared_outs plan told sound.state target h fits

-- the same of a change that has gone on so
module _ (old new : Change) (had has : Spares) (told : Answer Record) (end : Option End)
    (is : next_move old.limits old.plan had old.near old.state told ≡ record { state = new.state; spares = has; end = end }) where
  pub outs : (actor : ℕ) (k : Knowledge) → IsSoundChange old had → IsTarget old.limits old.plan → Shows actor old had k → Fits old.limits k (wanted_step old had) told
      → TakesOut old.limits k (learn k (wanted_step old had) told) old.plan end
  outs actor k sound target h fits =
      rw is at (outs_at actor old.limits k had old.near old.plan old.state told (sound_bare old had sound) target (shows_bare actor old had k h) fits)
