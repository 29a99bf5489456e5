use Rattle.round_model.proofs.SeenPages.{seen_is_read}
use Rattle.op_machine.proofs.ReadPages.{read_above}
use Rattle.op_machine.proofs.Tending.{may_tend, plans_for, upkeep_over}
use Rattle.std.proofs.Common.{inr}
use Rattle.op_machine.proofs.task.Task.tend_leaf.Goals as goal

pub upkeep_at-requires : goal.upkeep_at-requires
upkeep_at-requires g c =
    let (k, r, h, there) = c.requires.faced in
    let has = g.R.Rows.has c.args.rows.now c.args.pass.now in
    let writer = c.args.places.now.writer in
    rw c.writer.ensures (record {
      parent = read_above has k there c.args.self.now.limits r writer.page writer.round.parent h.above;
      page = seen_is_read has k writer.page h.at.page.in_hand.seen there;
    })

pub begin_planned-requires : goal.begin_planned-requires
begin_planned-requires g c =
    let (k, r, h, there) = c.requires.faced in
    let writer = c.args.places.now.writer in
    let there = plans_for c.args.self.now.limits k r c.args.self.now.command writer.round.parent writer.page c.in-Some.plan (rw c.writer.ensures at c.in-Some.ensures.due) h.at.page h.above in
    record { target = there.0; spells = there.1; room = h.at.seeks.spare.room }

pub execute_at_leaf-requires : goal.execute_at_leaf-requires
execute_at_leaf-requires g c = let (k, r, h, there) = c.requires.faced in record { have = c.requires.have; faced = (k, r, h.at, rw c.upkeep_at.ensures.looks there); last = c.requires.last }

pub returns-in-Some-clause-stands : goal.returns-in-Some-clause-stands
returns-in-Some-clause-stands g c k r h =
    let may = c.plans_may_be_linked.ensures in
    let writer = c.args.places.now.writer in
    c.begin_planned.ensures.begun.stands k r
    (may_tend c.args.self.now c.args.spares.now k r may.hold may.remove writer.round.parent writer.page c.in-Some.plan (rw c.writer.ensures at c.in-Some.ensures.due) h)

pub returns-in-Some-clause-few : goal.returns-in-Some-clause-few
returns-in-Some-clause-few g c = c.begin_planned.ensures.begun.few

pub returns-in-Some-clause-asks : goal.returns-in-Some-clause-asks
returns-in-Some-clause-asks g c = c.begin_planned.ensures.begun.asks

pub returns-in-Some-clause-have : goal.returns-in-Some-clause-have
returns-in-Some-clause-have g c = record { reader = rw c.begin_planned.ensures.reader c.requires.have.reader; writer = rw c.begin_planned.ensures.writer c.requires.have.writer }

pub returns-in-None-clause-stands : goal.returns-in-None-clause-stands
returns-in-None-clause-stands g c k r h = c.execute_at_leaf.ensures.stands c.args.places.now.writer.round.parent k r h (rw c.writer.ensures at c.in-None.ensures.due)

pub returns-in-None-clause-few : goal.returns-in-None-clause-few
returns-in-None-clause-few g c = c.execute_at_leaf.ensures.few

pub returns-in-None-clause-asks : goal.returns-in-None-clause-asks
returns-in-None-clause-asks g c = c.execute_at_leaf.ensures.asks

pub returns-in-None-clause-have : goal.returns-in-None-clause-have
returns-in-None-clause-have g c = c.execute_at_leaf.ensures.have

pub returns-in-Some-clause-goes : goal.returns-in-Some-clause-goes
returns-in-Some-clause-goes g c =
    let writer = c.args.places.now.writer in
    inr (inr (_, c.begin_planned.ensures.begun.begins, upkeep_over c.args.self.now.command writer.round.parent writer.page c.in-Some.plan (rw c.writer.ensures at c.in-Some.ensures.due)))

pub returns-in-None-clause-goes : goal.returns-in-None-clause-goes
returns-in-None-clause-goes g c = c.execute_at_leaf.ensures.goes c.args.places.now.writer.round.parent
