use Rattle.rounds.proofs.Words.{read_way, down_within}
use Rattle.rounds.proofs.read_round.ReadRound.go_down.Goals as goal

pub go_to-requires : goal.go_to-requires
go_to-requires g c =
    let old = c.args.self.now in
    let there = down_within old.round.limits (read_way old.round.goal old.round.key) old.page.chain c.args.child
    (c.requires.can.reached.names c.requires.can.alive) c.requires.index c.requires.leads in
    record { some = there.0; below = rw (← c.self.view_is, ← c.go_below.ensures.way) at there.1 }
