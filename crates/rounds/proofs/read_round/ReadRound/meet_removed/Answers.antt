use Rattle.rounds.proofs.Words.{rules, ◌<◌, inl, inr, refl, level_in, read_way}
use Rattle.rounds.proofs.LegTurns.{above_leads, left_within}
use Rattle.rounds.proofs.read_round.ReadRound.meet_removed.Goals as goal

pub go_to-requires : goal.go_to-requires
go_to-requires g c =
    let old = c.args.self.now in
    let there = left_within old.round.limits (read_way old.round.goal old.round.key) old.round.goal old.page c.in-Some.left old.round.leg c.requires.can.meets c.in-Some.ensures.leads in
    record { some = there.0; below = rw (← c.self.view_is, ← c.go_round.ensures.way) at there.1 }

pub returns-in-Some-clause-treats : goal.returns-in-Some-clause-treats
returns-in-Some-clause-treats g c =
    let old = c.args.self.now in
    let above = above_leads old.page c.in-Some.left old.round.leg c.in-Some.ensures.leads in
    let index : 0 < level_in old.page.chain = search rules in
    inr (inr (inr (inr (inl (record {
      gone = c.requires.gone;
      index = index;
      above = above.0;
      is_above = above.1;
      next = c.in-Some.left;
      leads = above.2;
      goes = rw (← c.self.view_is, c.go_to.ensures, c.go_round.ensures.leg, c.go_round.ensures.way) refl;
    })))))
