use Rattle.rounds.proofs.Words.{Number, PlacedRead}
use Rattle.rounds.proofs.Seeing.{goes_on, is_missing, placed, way_told}
use Rattle.rounds.proofs.read_round.ReadRound.told.Goals as goal
use Rattle.rounds.proofs.read_round.ReadRound.told.Goals.{in-More, in-Empty}

pub told-requires : goal.told-requires
told-requires g c =
    let was : PlacedRead = placed c.self.inside.key c.self.inside.goal c.self.inside.aside c.self.inside.leg c.self.inside.descent in
    record { told = way_told was.round (Number c.args.number) (rw (← c.self.view_is) at c.requires.told) }

pub returns-clause-responds : goal.returns-clause-responds
returns-clause-responds g c =
    let was : PlacedRead = placed c.self.inside.key c.self.inside.goal c.self.inside.aside c.self.inside.leg c.self.inside.descent in
    let now = c.told.new.self in
    let told = Number c.args.number in
    rw (← c.self.view_is)
    elim c.match-told.branch [
      | in-More w ↦ rw w.result-is (goes_on was now told (rw w.in-More.is at c.told.ensures.responds) c.told.ensures.limits)
      | in-Empty w ↦ rw w.result-is (is_missing was now told (rw w.in-Empty.is at c.told.ensures.responds))
    ]
