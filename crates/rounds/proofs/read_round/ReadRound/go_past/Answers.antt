use Rattle.rounds.proofs.Words.{◌≡◌, refl, Round}
use Rattle.rounds.proofs.LegTurns.{down_within_past, goes_down_past, goes_right_past, reached_page}
use Rattle.rounds.proofs.read_round.ReadRound.go_past.Goals as goal

pub next_below-child-requires-clause-reached : goal.next_below-child-requires-clause-reached
next_below-child-requires-clause-reached g c =
    let old = c.args.self.now in
    reached_page old.round old.page old.met c.requires.can c.requires.round c.requires.level

pub go_to-requires-in-None-clause-some : goal.go_to-requires-in-None-clause-some
go_to-requires-in-None-clause-some g c =
    let old = c.args.self.now in
    (down_within_past old.round old.page old.met c.requires.can c.requires.round c.requires.level c.requires.merged c.requires.stays c.next_below-child.result
    c.in-None.ensures.leads c.next_below-child.ensures.leads).0

pub go_to-requires-in-None-clause-below : goal.go_to-requires-in-None-clause-below
go_to-requires-in-None-clause-below g c =
    let old = c.args.self.now in
    let there = down_within_past old.round old.page old.met c.requires.can c.requires.round c.requires.level c.requires.merged c.requires.stays
    c.next_below-child.result c.in-None.ensures.leads c.next_below-child.ensures.leads in
    rw (← c.self.view_is, ← c.go_below.ensures.way) at there.1

pub returns-in-Some-clause-treats : goal.returns-in-Some-clause-treats
returns-in-Some-clause-treats g c =
    let old = c.args.self.now in
    goes_right_past old.round old.page old.met c.requires.can c.requires.round c.requires.level c.requires.merged c.requires.stays c.in-Some.right c.in-Some.ensures.leads _
    (rw (← c.self.view_is, c.go_to.ensures, c.pass.ensures) refl)

pub returns-in-None-clause-treats : goal.returns-in-None-clause-treats
returns-in-None-clause-treats g c =
    let old = c.args.self.now in
    let was : c.self.inside.leg.leg ≡ Round c.self.inside.leg.page = rw (← c.self.view_is) at c.requires.round in
    goes_down_past old.round old.page old.met c.requires.can c.requires.round c.requires.level c.requires.merged c.requires.stays c.next_below-child.result
    c.in-None.ensures.leads c.next_below-child.ensures.leads _
    (rw (← c.self.view_is, c.go_to-in-None.ensures, c.go_below.ensures.way, c.go_below.ensures.round was) refl)
