use Rattle.rounds.proofs.Words.{Number, PlacedWrite}
use Rattle.rounds.proofs.WriteSeeing.{goes_on, is_missing, placed}
use Rattle.rounds.proofs.write_round.WriteRound.told.Goals as goal
use Rattle.rounds.proofs.write_round.WriteRound.told.Goals.{in-More, in-Empty}

pub returns-clause-responds : goal.returns-clause-responds
returns-clause-responds g c =
    let was : PlacedWrite = placed c.self.inside.key c.self.inside.due c.self.inside.tends c.self.inside.splits c.self.inside.floor
    c.self.inside.course c.self.inside.descent c.self.inside.plan.value c.self.inside.after in
    let now = c.told.new.self in
    let told = Number c.args.number in
    rw (← c.self.view_is)
    elim c.match-told.branch [
      | in-More w ↦ rw w.result-is (goes_on was now told (rw w.in-More.is at c.told.ensures.responds) c.told.ensures.limits)
      | in-Empty w ↦ rw w.result-is (is_missing was now told (rw w.in-Empty.is at c.told.ensures.responds))
    ]
