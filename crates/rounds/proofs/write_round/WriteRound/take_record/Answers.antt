use Rattle.rounds.proofs.Words.{Content, machine, writing, PlacedWrite}
use Rattle.rounds.proofs.WriteReading.{is_told, reads_now}
use Rattle.rounds.proofs.WriteSeeing.{can_treat_now, placed, treats_now}
use Rattle.rounds.proofs.write_round.WriteRound.take_record.Goals as goal

pub treat-requires-clause-read : goal.treat-requires-clause-read
treat-requires-clause-read g c =
    let was : PlacedWrite = placed c.self.inside.key c.self.inside.due c.self.inside.tends c.self.inside.splits c.self.inside.floor
    c.self.inside.course c.self.inside.descent c.self.inside.plan.value c.self.inside.after in
    let told = Content c.args.found.content in
    let b = rw c.in-Whole.is at c.take_record.ensures.responds in
    rw c.take_record.ensures.looks (reads_now (g.R.Rows.has c.args.rows.now c.args.pass.now) was c.take_record.new.self told b (rw (← c.self.view_is) at c.requires.told))

pub treat-requires-clause-can : goal.treat-requires-clause-can
treat-requires-clause-can g c =
    let was : PlacedWrite = placed c.self.inside.key c.self.inside.due c.self.inside.tends c.self.inside.splits c.self.inside.floor
    c.self.inside.course c.self.inside.descent c.self.inside.plan.value c.self.inside.after in
    let told = Content c.args.found.content in
    let b = rw c.in-Whole.is at c.take_record.ensures.responds in
    can_treat_now was c.take_record.new.self told b c.take_record.ensures.limits
    (rw (← c.self.view_is) at (is_told (g.R.Rows.has c.args.rows.now c.args.pass.now) (machine writing) c.args.self.now.round told c.requires.told))

pub returns-in-Whole-clause-responds : goal.returns-in-Whole-clause-responds
returns-in-Whole-clause-responds g c =
    let was : PlacedWrite = placed c.self.inside.key c.self.inside.due c.self.inside.tends c.self.inside.splits c.self.inside.floor
    c.self.inside.course c.self.inside.descent c.self.inside.plan.value c.self.inside.after in
    let told = Content c.args.found.content in
    let b = rw c.in-Whole.is at c.take_record.ensures.responds in
    rw (← c.self.view_is) (treats_now was c.take_record.new.self told c.treat.new.self c.treat.result b c.take_record.ensures.limits c.treat.ensures.treats)
