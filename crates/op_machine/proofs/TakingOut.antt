-- What a change has taken out of the tree once it has ended.
use Rattle.op_machine.proofs.Words.{◌≡◌, ℕ, Some, None, refl, Command, Limits, Record, linked_by, End, Won}
use Rattle.op_machine.proofs.Words.{Lost, Full, Plan, Brings, Then, Unlinked}
use Rattle.deltas.specs.declared.record.Record.TheVariants as kind
use Rattle.traces.specs.discipline.Knowledge.{Knowledge, Limbos}
use Rattle.change_machine.specs.Outs.{TakesFresh, limbo_after, limbo_over}
use Rattle.structure_changes.specs.declared.plan.Plan.TheVariants.{Install, Split, Root, Unlink}
use Rattle.op_parts.specs.Hands.{IsTakenBy, GoesToLimbo, TakesNothing, Unlinks}
use Rattle.op_parts.specs.declared.then.Then.TheVariants.{After, Reply}
use Rattle.structure_changes.specs.declared.after.After.TheVariants.{Round, Limbo, Errand}

-- a plan that takes nothing out leaves the limbo as it is
takes_nothing : (plan : Plan) (k : Knowledge) → TakesNothing plan → limbo_after plan (Some Won) k ≡ k.limbo
takes_nothing (Install pid head content) k h = over content h
  where
    over : (content : Record) → TakesNothing (Install pid head content) → limbo_over content head k ≡ k.limbo
    over (kind.Base page) h = absurd h
    over (kind.Unterm unterm) h = absurd h
    over content h = refl
takes_nothing (Split pid split) k h = refl
takes_nothing (Root left root) k h = refl
takes_nothing (Unlink pid head unterm removal) k h = absurd h

-- an update takes nothing out
update_takes_nothing : (content : Record) (pid head : ℕ) → linked_by content head None ≡ Some (Some head) → TakesNothing (Install pid head content)
update_takes_nothing (kind.Base page) pid head e = cc
update_takes_nothing (kind.Unterm unterm) pid head e = cc
update_takes_nothing other pid head e = tt

module _ (limits : Limits) (k : Knowledge) (unlinked : Unlinked) where
  takes : (plan : Plan) → IsTakenBy k plan unlinked → TakesFresh limits k plan (Some Won) → GoesToLimbo limits k unlinked (limbo_after plan (Some Won) k)
  takes (Install pid head content) taken fresh = over content taken fresh
    where
      over : (content : Record) → IsTakenBy k (Install pid head content) unlinked → TakesFresh limits k (Install pid head content) (Some Won)
          → GoesToLimbo limits k unlinked (limbo_over content head k)
      over (kind.Base page) taken fresh = record { head = head; rows_of = taken.0; absent = fresh; page = rw taken.1 refl }
      over content taken fresh = absurd taken
  takes (Split pid split) taken fresh = absurd taken
  takes (Root left root) taken fresh = absurd taken
  takes (Unlink pid head unterm removal) taken fresh = record {
    head = removal;
    rows_of = taken.0;
    absent = fresh.3;
    page = rw taken.1 (record { some = fresh.0; below = fresh.1; absent = fresh.2; is = refl });
  }

module _ (limits : Limits) (k : Knowledge) (command : Command) (plan : Plan) where
  won : (then : Then) → Brings k command plan then → TakesFresh limits k plan (Some Won) → Unlinks limits k Won then (limbo_after plan (Some Won) k)
  won (After Round) brings fresh = takes_nothing plan k brings.1
  won (After (Limbo unlinked)) brings fresh = takes limits k unlinked plan brings fresh
  won (After (Errand key)) brings fresh = takes_nothing plan k (rw brings.2 tt)
  won (Reply answered) brings fresh = takes_nothing plan k (rw brings.is (update_takes_nothing brings.content brings.pid brings.head (brings.updates None)))

  -- what is known to be in limbo once the change has ended
  pub unlinks : (end : End) (then : Then) (after : Limbos) → Brings k command plan then → after ≡ limbo_after plan (Some end) k → TakesFresh limits k plan (Some end) → Unlinks limits k end then after
  unlinks Won then after brings is fresh = rw is (won then brings fresh)
  unlinks Lost then after brings is fresh = is
  unlinks (Full kind) then after brings is fresh = is
