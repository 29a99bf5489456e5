-- What a change's next step leaves an operation in.
use Rattle.std.proofs.Common.{◌≡◌, ◌<◌, ◌≤◌, ◌+◌, inl, inr, ℕ, List, Option, Some, None, true, refl, sym, ap, ◌∙◌, arith}
use Rattle.op_machine.proofs.Words.{IfSome, same_Some, Command, Limits, Answer, TakePid, Record, MayReply, Fits, Knowledge, learn, IsStepSpent, Recalled, cause_worth, recall, HaveRoom}
use Rattle.op_machine.proofs.Words.{Spares, End, Kind, Won, Lost, Full, Plan, left_for, one_round, IsInChange, Then, Unlinked}
use Rattle.bw_model.specs.declared.step.Answer.TheVariants.{Whether}
use Rattle.bw_model.specs.declared.step.Step.{Step}
use Rattle.deltas.specs.declared.record.Record.TheVariants as kind
use Rattle.change_machine.specs.Bounded as bound
use Rattle.change_machine.specs.Changes as change
use Rattle.structure_changes.specs.Plans.{clears}
use Rattle.structure_changes.specs.declared.plan.Plan.TheVariants.{Install, Split, Root, Unlink}
use Rattle.op_machine.proofs.Replying.{not_full}
use Rattle.op_machine.proofs.Worth.{enough}
use Rattle.op_machine.specs.machine.Brings.{Brings, IsReadPlan, IsUpdateOf, IsUsefulOver, IsUsefulPlan}
use Rattle.op_parts.specs.Hands.{AreRowsOf, IsTakenBy}
use Rattle.op_machine.specs.machine.Outcomes as outcome
use Rattle.op_machine.specs.machine.Outcomes.{FacesChanged}
use Rattle.op_machine.specs.machine.Tasks.{IsBetweenChanges, IsUnreadPid, Seeks, Task}
use Rattle.op_parts.specs.declared.then.Then.TheVariants.{After, Reply}
use Rattle.structure_changes.specs.declared.after.After.TheVariants.{Round, Limbo, Errand}

-- a PID that is taken is of no page that was read
taken_unread : (limits : Limits) (k : Knowledge) (asked : Step Record) (told : Answer Record) → Fits limits k asked told → (p : ℕ) → bound.pid_taken asked told ≡ Some p → k.read.heads p ≡ None
taken_unread limits k (TakePid q) (Whether true) fits p e = rw (← (same_Some q p e)) fits.unread
taken_unread limits k asked told fits p e = cc

-- nor is it that of the page that is to be split
apart_from : (k : Knowledge) (plan : Plan) (o : Option ℕ) → ((p : ℕ) → o ≡ Some p → k.read.heads p ≡ None) → IsReadPlan k plan → bound.IsApart plan o
apart_from k (Split page plan) (Some p) unread read = λ same. let e = unread p refl in let f : k.read.heads p ≡ Some plan.next = rw same read in let g = sym e ∙ f in cc
apart_from k other others unread read = tt

spare_apart : (k : Knowledge) (plan : Plan) (o : Option ℕ) → IfSome o (λ p. k.read.heads p ≡ None) → IsReadPlan k plan → bound.IsApart plan o
spare_apart k plan None unread read = apart_from k plan None (λ p e. cc) read
spare_apart k plan (Some q) unread read = apart_from k plan (Some q) (λ p e. rw (← (same_Some q p e)) unread) read

pub begins_apart : (k : Knowledge) (plan : Plan) (spares : Spares) → IsUnreadPid spares k → IsReadPlan k plan → bound.IsApart plan spares.pid
begins_apart k plan spares unread read = spare_apart k plan spares.pid unread read

unread_from : (heads : ℕ → Option ℕ) (old taken o : Option ℕ) → IfSome old (λ p. heads p ≡ None) → ((p : ℕ) → taken ≡ Some p → heads p ≡ None)
    → bound.IsPidFrom old taken o → IfSome o (λ p. heads p ≡ None)
unread_from heads old taken None was now from = tt
unread_from heads old taken (Some p) was now from = elim from [
  | inl same ↦ rw same at was
  | inr new ↦ now p new
]

-- what else is known of own rows, own pages and words of free bits changes nothing
rows_still : (k now : Knowledge) (head : ℕ) (rows : List ℕ) → now.read ≡ k.read → AreRowsOf k head rows → AreRowsOf now head rows
rows_still k now head rows same h = record { chain = h.chain; read = rw same h.read; short = h.short; are = h.are }

taken_still : (k now : Knowledge) (plan : Plan) (unlinked : Unlinked) → now.read ≡ k.read → IsTakenBy k plan unlinked → IsTakenBy now plan unlinked
taken_still k now (Install pid head (kind.Base page)) unlinked same h = (rows_still k now head unlinked.rows.items same h.0, h.1)
taken_still k now (Unlink pid head unterm removal) unlinked same h = (rows_still k now removal unlinked.rows.items same h.0, h.1)
taken_still k now other unlinked same h = absurd h

brings_still : (k now : Knowledge) (command : Command) (plan : Plan) (then : Then) → now.read ≡ k.read → Brings k command plan then → Brings now command plan then
brings_still k now command plan (Reply answered) same b = record {
  pid = b.pid;
  head = b.head;
  content = b.content;
  is = b.is;
  updates = b.updates;
  chain =
      b.chain;
  read = rw same b.read;
  leaf = b.leaf;
  short = b.short;
  room = b.room;
  alive = b.alive;
  covers = b.covers;
  replies = b.replies;
}
brings_still k now command plan (After Round) same b = b
brings_still k now command plan (After (Limbo unlinked)) same b = taken_still k now plan unlinked same b
brings_still k now command plan (After (Errand key)) same b = b

useful_over : (k now : Knowledge) (head : ℕ) (content : Record) → now.read ≡ k.read → IsUsefulOver k head content → IsUsefulOver now head content
useful_over k now head (kind.Base page) same h = λ chain read. h chain (rw same at read)
useful_over k now head (kind.Split split) same h = h
useful_over k now head content same h = tt

useful_still : (k now : Knowledge) (plan : Plan) → now.read ≡ k.read → IsUsefulPlan k plan → IsUsefulPlan now plan
useful_still k now (Install pid head content) same h = useful_over k now head content same h
useful_still k now (Split pid plan) same h = λ chain read. h chain (rw same at read)
useful_still k now (Root left root) same h = tt
useful_still k now (Unlink pid head unterm removal) same h = tt

read_still : (k now : Knowledge) (plan : Plan) → now.read ≡ k.read → IsReadPlan k plan → IsReadPlan now plan
read_still k now (Split pid plan) same h = rw same h
read_still k now other same h = tt

-- a change that has not won leaves what is known of the command's update
lost_links : (plan : Plan) (linked : Option (Option ℕ)) → change.linked_after plan Lost linked ≡ linked
lost_links (Install pid head content) linked = refl
lost_links other linked = refl

full_links : (kind : Kind) (plan : Plan) (linked : Option (Option ℕ)) → change.linked_after plan (Full kind) linked ≡ linked
full_links kind (Install pid head content) linked = refl
full_links kind other linked = refl

-- a change that takes something out of the tree links no update
taken_links : (k : Knowledge) (unlinked : Unlinked) (plan : Plan) (linked : Option (Option ℕ)) → IsTakenBy k plan unlinked → change.linked_after plan Won linked ≡ linked
taken_links k unlinked (Install pid head (kind.Base page)) linked h = refl
taken_links k unlinked (Unlink pid head unterm removal) linked h = refl
taken_links k unlinked other linked h = absurd h

module _ (task : Task) (had has : Spares) (k : Knowledge) (r : Recalled) (old new : change.Change) (then : Then) (told : Answer Record)
    (h : IsInChange task had k r old then) (fits : Fits task.limits k (change.wanted_step old had) told)
    (pid : bound.IsPidFrom had.pid (bound.pid_taken (change.wanted_step old had) told) has.pid) where
  abbrev now : Knowledge
  now = learn k (change.wanted_step old had) told

  abbrev then_recalled : Recalled
  then_recalled = recall r (change.wanted_step old had) told

  pub taken_apart : bound.IsApart old.plan (bound.pid_taken (change.wanted_step old had) told)
  taken_apart = apart_from k old.plan (bound.pid_taken (change.wanted_step old had) told) (taken_unread task.limits k (change.wanted_step old had) told fits) h.split

  unread : now.read ≡ k.read → IsUnreadPid has now
  unread same = rw same (unread_from k.read.heads had.pid (bound.pid_taken (change.wanted_step old had) told) has.pid h.unread (taken_unread task.limits k (change.wanted_step old had) told fits) pid)

  pub change_on : change.IsSameChange old new → change.IsSoundChange new has → change.IsMade new has → change.ChangesOn task.actor k now new has
      → bound.Recalls new has then_recalled → IsInChange task has now then_recalled new then
  change_on same sound made goes recalls = record {
    asked = record { going = goes.like.command ∙ h.asked.going; unlinked = goes.like.linked_now ∙ h.asked.unlinked };
    writer = h.writer;
    limits = same.limits ∙ h.limits;
    brings = rw same.plan (brings_still k now task.command old.plan then goes.like.read h.brings);
    useful = rw same.plan (useful_still k now old.plan goes.like.read h.useful);
    split = rw same.plan (read_still k now old.plan goes.like.read h.split);
    unread = unread goes.like.read;
    sound = sound;
    made = made;
    shows = goes.shows;
    recalls = recalls;
  }

  pub change_left : bound.SpendsTo (one_round task.limits) r old had told new has None
      → IsStepSpent task.limits r (change.wanted_step old had) told (bound.steps_left (one_round task.limits) old had + 1) (bound.steps_left (one_round task.limits) new has + 1)
  change_left spends = elim spends.1 [
    | inl less ↦ inl (omega (arith, less))
    | inr paid ↦ let w = enough task.limits in let same : bound.few_steps old.limits ≡ bound.few_steps task.limits = ap bound.few_steps
        h.limits in inr (paid.0, omega (arith, w, same))
  ]

  -- where it has ended
  module _ (end : End) (room : HaveRoom old.limits has) (over : change.ChangeIsOver k now old told has end) where
    seeks : change.linked_after old.plan end k.asked.linked ≡ None → Seeks task has now
    seeks none = record {
      inside = over.like.inside ∙ h.shows.may.inside;
      spare = record { room = rw (← h.limits) room; rest = over.rest };
      unread = unread over.like.read;
      asked = record { going = over.like.command ∙ h.asked.going; unlinked = over.like.linked_now ∙ none };
    }

    done : IsBetweenChanges task has now
    done = record {
      inside = over.like.inside ∙ h.shows.may.inside;
      spare = record { room = rw (← h.limits) room; rest = over.rest };
      going = over.like.command ∙ h.asked.going;
    }

  answers : (room : HaveRoom old.limits has) (over : change.ChangeIsOver k now old told has Won) (answered : _) → then ≡ Reply answered → MayReply task.limits task.actor now answered
  answers room over answered is =
      let b : IsUpdateOf k task.command old.plan answered = rw is at h.brings in
      record {
        command = task.command;
        going = over.like.command ∙ h.asked.going;
        justified = inl (record {
          row = b.head;
          chain = b.chain;
          read = rw over.like.read b.read;
          leaf = b.leaf;
          covers = b.covers;
          is = b.replies;
          basis = inl (over.like.linked_now ∙ ap (λ plan. change.linked_after plan Won k.asked.linked) b.is ∙ b.updates k.asked.linked, b.alive);
        });
      }

  pub change_ended : (end : End) → HaveRoom old.limits has → change.ChangeIsOver k now old told has end → FacesChanged task has now end then
  change_ended Won room over = by then refl
    where
      by : (t : Then) → then ≡ t → FacesChanged task has now Won t
      by (Reply answered) is =
          let b : IsUpdateOf k task.command old.plan answered = rw is at h.brings in
          (done Won room over, answers room over answered is, not_full task.command _ answered b.replies)
      by (After Round) is = (seeks Won room over (ap (change.linked_after old.plan Won) h.asked.unlinked ∙ (rw is at h.brings).2), h.writer)
      by (After (Limbo unlinked)) is = (seeks Won room over (taken_links k unlinked old.plan k.asked.linked (rw is at h.brings) ∙ h.asked.unlinked), h.writer)
      by (After (Errand key)) is =
          let b = rw is at h.brings in
          (seeks Won room over (ap (λ plan. change.linked_after plan Won k.asked.linked) b.2 ∙ h.asked.unlinked), h.writer)
  change_ended Lost room over = (seeks Lost room over (lost_links old.plan k.asked.linked ∙ h.asked.unlinked), h.writer)
  change_ended (Full kind) room over = (
    seeks (Full kind) room over (full_links kind old.plan k.asked.linked ∙ h.asked.unlinked),
    h.writer,
    rw (← h.limits) over.decided.1,
  )

  won_left : (t : Then) (left : ℕ) → left_for task.limits (outcome.Changed Won t) < left + cause_worth task.limits
  won_left (Reply answered) left = let w = enough task.limits in omega (arith, w)
  won_left (After Round) left = let w = enough task.limits in omega (arith, w)
  won_left t left = let w = enough task.limits in omega (arith, w)

  -- after a page is cleared a new round begins
  cleared_left : (t : Then) → then ≡ t → clears old.plan ≡ true → left_for task.limits (outcome.Changed Won t) ≤ one_round task.limits
  cleared_left (Reply answered) is goes = let b : IsUpdateOf k task.command old.plan answered = rw is at h.brings in let e = sym goes ∙ ap clears b.is in cc
  cleared_left (After Round) is goes = omega arith
  cleared_left (After (Limbo unlinked)) is goes = omega arith
  cleared_left (After (Errand key)) is goes = let b = rw is at h.brings in let e = sym goes ∙ ap clears b.2 in cc

  pub ended_left : (end : End) → bound.SpendsTo (one_round task.limits) r old had told new has (Some end)
      → IsStepSpent task.limits r (change.wanted_step old had) told (bound.steps_left (one_round task.limits) old had + 1) (left_for task.limits (outcome.Changed end then))
  ended_left Won spends = elim spends [
    | inl paid ↦ inr (paid, won_left then (bound.steps_left (one_round task.limits) old had + 1))
    | inr more ↦ inl (let after = cleared_left then refl more.0 in omega (arith, after))
  ]
  ended_left Lost spends = elim spends [
    | inl paid ↦ inr (paid, (let w = enough task.limits in omega (arith, w)))
    | inr more ↦ inl (omega (arith, more))
  ]
  ended_left (Full kind) some = inl (omega (arith, some))
