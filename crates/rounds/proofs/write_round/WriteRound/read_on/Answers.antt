use Rattle.rounds.proofs.Words.{refl, Content, machine, writing, PlacedWrite}
use Rattle.rounds.proofs.WriteReading.{is_told, read_now}
use Rattle.rounds.proofs.WriteSeeing.{placed, way_told}
use Rattle.rounds.proofs.write_round.WriteRound.read_on.Goals as goal

pub take_record-requires-clause-told : goal.take_record-requires-clause-told
take_record-requires-clause-told g c =
    let was : PlacedWrite = placed c.self.inside.key c.self.inside.due c.self.inside.tends c.self.inside.splits c.self.inside.floor
    c.self.inside.course c.self.inside.descent c.self.inside.plan.value c.self.inside.after in
    let told = Content c.args.found.content in
    way_told was.round told (rw (← c.self.view_is) at (is_told (g.R.Rows.has c.args.rows.now c.args.pass.now) (machine writing) c.args.self.now.round told c.requires.told))

pub take_record-requires-clause-read : goal.take_record-requires-clause-read
take_record-requires-clause-read g c =
    read_now (g.R.Rows.has c.args.rows.now c.args.pass.now) (machine writing) c.args.self.now.round c.args.found.row c.args.found.content c.requires.asked c.requires.told

pub returns-clause-same : goal.returns-clause-same
returns-clause-same g c = rw (← c.self.view_is) (record { limits = c.take_record.ensures.limits; key = refl; due = refl; tends = refl; splits = refl; floor = refl; seeks = λ is. is })
