use Rattle.rounds.proofs.Words.{Content, IsToldThere, machine, PlacedRead}
use Rattle.round_model.specs.ReadRounds.{reading}
use Rattle.rounds.proofs.Reading.{are_read}
use Rattle.rounds.proofs.Seeing.{can_treat_now, placed, treats_now, way_told}
use Rattle.rounds.proofs.WriteReading.{is_told, read_now}
use Rattle.rounds.proofs.read_round.ReadRound.take_record.Goals as goal

pub take_record-requires : goal.take_record-requires
take_record-requires g c =
    let was : PlacedRead = placed c.self.inside.key c.self.inside.goal c.self.inside.aside c.self.inside.leg c.self.inside.descent in
    let is_there = g.R.Rows.has c.args.rows.now c.args.pass.now in
    let told = Content c.args.found.content in
    let t : IsToldThere is_there (machine reading) was.round told = rw (← c.self.view_is) at c.requires.told in
    record {
      asked = rw (← c.self.view_is) at c.requires.asked;
      told = way_told was.round told (is_told is_there (machine reading) was.round told t);
      read = read_now is_there (machine reading) was.round c.args.found.row c.args.found.content (rw (← c.self.view_is) at c.requires.asked) t;
    }

pub treat-requires : goal.treat-requires
treat-requires g c =
    let was : PlacedRead = placed c.self.inside.key c.self.inside.goal c.self.inside.aside c.self.inside.leg c.self.inside.descent in
    let now = c.take_record.new.self in
    let is_there = g.R.Rows.has c.args.rows.now c.args.pass.now in
    let told = Content c.args.found.content in
    let t : IsToldThere is_there (machine reading) was.round told = rw (← c.self.view_is) at c.requires.told in
    let b = rw c.in-Whole.is at c.take_record.ensures.responds in
    let are = are_read is_there was.round now.way.state told now.page b t in
    record {
      can = can_treat_now was now told b c.take_record.ensures.limits (is_told is_there (machine reading) was.round told t);
      read = rw c.take_record.ensures.looks (record { page = are.page; aside = are.aside; leg = are.leg });
    }

pub returns-in-Whole-clause-responds : goal.returns-in-Whole-clause-responds
returns-in-Whole-clause-responds g c =
    let was : PlacedRead = placed c.self.inside.key c.self.inside.goal c.self.inside.aside c.self.inside.leg c.self.inside.descent in
    let now = c.take_record.new.self in
    let told = Content c.args.found.content in
    let b = rw c.in-Whole.is at c.take_record.ensures.responds in
    rw (← c.self.view_is) (treats_now was now told c.treat.new.self c.treat.result b c.take_record.ensures.limits c.treat.ensures.treats)
