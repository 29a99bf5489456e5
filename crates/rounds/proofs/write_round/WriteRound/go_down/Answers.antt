use Rattle.rounds.proofs.Words.{◌<◌, arith, level_in, down_within}
use Rattle.round_model.specs.WriteRounds.{write_way}
use Rattle.rounds.proofs.write_round.WriteRound.go_down.Goals as goal

pub go_to-requires : goal.go_to-requires
go_to-requires g c =
    let old = c.args.self.now in
    let index : 0 < level_in old.page.chain = let above = c.requires.index in omega (arith, above) in
    let there = down_within old.round.limits (write_way old.round.goal old.round.key) old.page.chain c.args.child
    (c.requires.can.reached.names c.requires.here.alive) index c.requires.leads in
    record { some = there.0; below = rw (← c.self.view_is, ← c.go_below.ensures.way) at there.1 }
