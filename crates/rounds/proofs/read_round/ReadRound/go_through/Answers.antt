use Rattle.rounds.proofs.Words.{refl}
use Rattle.rounds.proofs.LegTurns.{goes_through, through_within}
use Rattle.rounds.proofs.read_round.ReadRound.go_through.Goals as goal

pub go_to-requires-clause-some : goal.go_to-requires-clause-some
go_to-requires-clause-some g c =
    let old = c.args.self.now in
    (through_within old.round old.page old.met c.requires.can c.requires.round c.requires.level c.requires.beside c.next_of_removed-next.result c.next_of_removed-next.ensures.leads).0

pub go_to-requires-clause-below : goal.go_to-requires-clause-below
go_to-requires-clause-below g c =
    let old = c.args.self.now in
    let there = through_within old.round old.page old.met c.requires.can c.requires.round c.requires.level c.requires.beside c.next_of_removed-next.result c.next_of_removed-next.ensures.leads in
    rw (← c.self.view_is) at there.1

pub returns-clause-treats : goal.returns-clause-treats
returns-clause-treats g c =
    let old = c.args.self.now in
    goes_through old.round old.page old.met c.requires.can c.requires.round c.requires.level c.requires.beside c.next_of_removed-next.result c.next_of_removed-next.ensures.leads _
    (rw (← c.self.view_is, c.go_to.ensures, c.pass.ensures) refl) c.requires.stays
