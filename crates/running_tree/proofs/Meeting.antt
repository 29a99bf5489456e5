-- Two seats that meet, and a seat that heeds a note.
use Rattle.running_tree.proofs.Words.{◌≡◌, ℕ, List, [], ◌∷◌, ◌++◌, map, refl, sym, ap, ◌∙◌, subst, Actor, IsActor, steps_due, Limits, Extends, knows, recalls, Part, Idle, Noted, HasPart}
use Rattle.running_tree.proofs.Words.{IsRefreshed, SitsAt, Mine, alone, first_part, other_parts, part, with_run, seen_of, Accounts, SeatsLast, IsLawfulRun, IsSeenRun, StartsWith, IsSeat}
use Rattle.running_tree.proofs.Words.{IsSeated}
use Rattle.traces.specs.declared.trace.Entry.{Entry}
use Rattle.table_rule.specs.declared.view.Reach.{Reach}
use Rattle.table_rule.specs.Running.{BeginWithSteps, Each, ExtendsFor}
use Rattle.running_tree.proofs.LackLaws.{lack_extends}

-- what an actor keeps shows the same of a run that others have gone on with
seated_extends : SeatsLast → (limits : Limits) (number : ℕ) (seen run : List Entry) (at : Actor) → IsSeated limits number seen at → IsLawfulRun limits run
    → Extends number seen run → IsSeated limits number run at
seated_extends own limits number seen run at seated legal extends =
    let lasts = own.own limits number seen run extends in
    record {
      lawful = legal;
      shows = subst (λ k. IsActor limits number k (recalls run number) at) (sym lasts.known) (subst (λ r. IsActor limits number (knows seen number) r at) (sym lasts.recalled) seated.shows);
      runs = seated.runs ∙ sym lasts.command;
      pays = subst (λ r. Accounts limits run number (steps_due r at.hand at.running)) (sym lasts.recalled) (lasts.affords (steps_due (recalls seen number) at.hand at.running) seated.pays);
      reads = own.readers limits number seen run at extends legal.readers seated.shows seated.reads;
      writes = own.writers limits number seen run at extends legal.writers seated.shows seated.writes;
      lacks = lack_extends limits number seen run at.lacks extends lasts.known lasts.command seated.lacks;
    }

pub seat_extends : SeatsLast → (limits : Limits) (number : ℕ) (me me' : Mine) (run : List Entry) (at : Actor) → IsSeat limits number me at
    → IsSeenRun limits run → Extends number (seen_of me) run → SitsAt limits number Idle me' → seen_of me' ≡ run
    → IsSeat limits number me' at
seat_extends own limits number me me' run at seat is extends place saw = record {
  there = seat.there;
  place = place;
  begins = subst BeginWithSteps (sym saw) is.begins;
  seated = subst (λ seen. IsSeated limits number seen at) (sym saw) (seated_extends own limits number (seen_of me) run at seat.seated is.lawful extends);
}

module _ (limits : Limits) (a b : ℕ) (reach : Reach) (one other joined : Mine) (at : SitsAt limits a Idle one) (at_other : SitsAt limits b reach other)
    (both : joined ≡ (one.0 ++ other.0, one.1)) where
  both_is : joined ≡ (part limits a (seen_of one) Idle ∷ part limits b (seen_of other) reach ∷ [], [])
  both_is = both ∙ ap (λ (z : List Part). (z ++ other.0, one.1)) (ap (λ (m : Mine). m.0) at)
      ∙ ap (λ (z : List Part). (alone limits a (seen_of one) Idle ++ z, one.1)) (ap (λ (m : Mine). m.0) at_other)
      ∙ ap (λ (z : List (ℕ × Unit {0})). (part limits a (seen_of one) Idle ∷ part limits b (seen_of other) reach ∷ [], z)) (ap (λ (m : Mine). m.1) at)

  pub has_part : HasPart limits joined.0
  has_part = (part limits a (seen_of one) Idle, alone limits b (seen_of other) reach, ap (λ (m : Mine). m.0) both_is, refl)

  module _ (later left right : Mine) (saw : IsRefreshed (IsLawfulRun limits) joined later) (first : left ≡ (first_part later.0, later.1)) (others : right ≡ (other_parts later.0, [])) where
    refreshed_is : later ≡ (part limits a saw.run Idle ∷ part limits b saw.run reach ∷ [], [])
    refreshed_is = saw.saw ∙ ap (λ (m : Mine). (map (with_run saw.run) m.0, m.1)) both_is

    left_is : left ≡ (alone limits a saw.run Idle, [])
    left_is = first ∙ ap (λ (m : Mine). (first_part m.0, m.1)) refreshed_is

    right_is : right ≡ (alone limits b saw.run reach, [])
    right_is = others ∙ ap (λ (m : Mine). (other_parts m.0, [])) refreshed_is

    left_saw : seen_of left ≡ saw.run
    left_saw = ap seen_of left_is

    right_saw : seen_of right ≡ saw.run
    right_saw = ap seen_of right_is

    left_at : SitsAt limits a Idle left
    left_at = subst (λ run. left ≡ (alone limits a run Idle, [])) (sym left_saw) left_is

    right_at : SitsAt limits b reach right
    right_at = subst (λ run. right ≡ (alone limits b run reach, [])) (sym right_saw) right_is

    both_extend : Each (λ p. ExtendsFor p.reach p.actor p.seen saw.run) (part limits a (seen_of one) Idle ∷ part limits b (seen_of other) reach ∷ [])
    both_extend = subst (λ (m : Mine). Each (λ p. ExtendsFor p.reach p.actor p.seen saw.run) m.0) both_is saw.extends

    pub left_extends : Extends a (seen_of one) (seen_of left)
    left_extends = subst (Extends a (seen_of one)) (sym left_saw) both_extend.0

    pub right_extends : reach ≡ Idle → Extends b (seen_of other) (seen_of right)
    right_extends is = subst (Extends b (seen_of other)) (sym right_saw) (subst (λ r. ExtendsFor r b (seen_of other) saw.run) is both_extend.1.0)

    pub left_starts : reach ≡ Noted → StartsWith (seen_of left) (seen_of other)
    left_starts is = subst (λ run. StartsWith run (seen_of other)) (sym left_saw) (subst (λ r. ExtendsFor r b (seen_of other) saw.run) is both_extend.1.0)

    saw_run : IsSeenRun limits saw.run
    saw_run = record { lawful = saw.legal; begins = saw.begins }

    pub left_run : IsSeenRun limits (seen_of left)
    left_run = subst (IsSeenRun limits) (sym left_saw) saw_run

    pub right_run : IsSeenRun limits (seen_of right)
    right_run = subst (IsSeenRun limits) (sym right_saw) saw_run

    pub left_seat : SeatsLast → (actor : Actor) → IsSeat limits a one actor → IsSeat limits a left actor
    left_seat own actor seat = seat_extends own limits a one left saw.run actor seat saw_run both_extend.0 left_at left_saw

    pub right_seat : SeatsLast → (actor : Actor) → reach ≡ Idle → IsSeat limits b other actor → IsSeat limits b right actor
    right_seat own actor is seat =
        seat_extends own limits b other right saw.run actor seat saw_run (subst (λ r. ExtendsFor r b (seen_of other) saw.run) is both_extend.1.0)
        (subst (λ r. SitsAt limits b r right) is right_at) right_saw

    pub saw_one : seen_of right ≡ seen_of left
    saw_one = right_saw ∙ sym left_saw
