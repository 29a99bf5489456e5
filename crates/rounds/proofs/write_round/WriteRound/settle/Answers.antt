use Rattle.rounds.proofs.Turning.{denied, few_deltas}
use Rattle.rounds.proofs.write_round.WriteRound.settle.Goals as goal

pub end_long-requires-clause-long : goal.end_long-requires-clause-long
end_long-requires-clause-long g c = c.is_long.ensures.0 c.if-is_long.true

pub returns-then-is_long-clause-treats : goal.returns-then-is_long-clause-treats
returns-then-is_long-clause-treats g c = c.end_long.ensures.treats

pub end_wide-requires-clause-short : goal.end_wide-requires-clause-short
end_wide-requires-clause-short g c = denied c.is_long.result _ c.is_long.ensures.1 c.if-is_long.false

pub end_wide-requires-clause-can : goal.end_wide-requires-clause-can
end_wide-requires-clause-can g c =
    let old = c.args.self.now in
    record {
      alive = c.requires.here.alive;
      short = few_deltas old.round.limits old.round.due old.page.chain
          (denied c.is_long.result _ c.is_long.ensures.1 c.if-is_long.false);
      wide = c.is_wide.ensures.wide.0
          c.if-is_wide.true;
    }

pub returns-then-is_wide-clause-treats : goal.returns-then-is_wide-clause-treats
returns-then-is_wide-clause-treats g c = c.end_wide.ensures.treats

pub go_on-requires-clause-fine : goal.go_on-requires-clause-fine
go_on-requires-clause-fine g c =
    record {
      short = denied c.is_long.result _ c.is_long.ensures.1 c.if-is_long.false;
      narrow = λ splits. let on = rw (← c.self.view_is) at splits in let not = c.if-not-self.true in cc;
    }

pub go_on-requires-2-clause-fine : goal.go_on-requires-2-clause-fine
go_on-requires-2-clause-fine g c =
    record {
      short = denied c.is_long.result _ c.is_long.ensures.1 c.if-is_long.false;
      narrow = λ splits can. denied c.is_wide.result _ c.is_wide.ensures.wide.1 c.if-is_wide.false can.wide;
    }

pub returns-then-not-self-clause-treats : goal.returns-then-not-self-clause-treats
returns-then-not-self-clause-treats g c = c.go_on.ensures.treats

pub returns-then-not-self-clause-same : goal.returns-then-not-self-clause-same
returns-then-not-self-clause-same g c = c.go_on.ensures.same

pub returns-clause-treats : goal.returns-clause-treats
returns-clause-treats g c = c.go_on-2.ensures.treats

pub returns-clause-same : goal.returns-clause-same
returns-clause-same g c = c.go_on-2.ensures.same
