use Rattle.op_machine.proofs.Words.{ap, refl, arith, seen_is_read}
use Rattle.op_machine.specs.machine.States.{Read}
use Rattle.op_machine.proofs.task.Task.end_reading.Goals as goal

pub leave_over-requires : goal.leave_over-requires
leave_over-requires g c =
    let (spares, k, r, faced, there) = c.requires.faced in
    let h = rw c.in-Leaf.is at faced in
    record { key = c.requires.key; read = seen_is_read (g.R.Rows.has c.args.rows.now c.args.pass.now) k c.args.places.now.reader.page h.ends.page.in_hand.seen there }

pub leave_over-requires-in-Beside : goal.leave_over-requires-in-Beside
leave_over-requires-in-Beside g c =
    let (spares, k, r, faced, there) = c.requires.faced in
    let h = rw c.in-Beside.is at faced in
    record { key = c.requires.key; read = seen_is_read (g.R.Rows.has c.args.rows.now c.args.pass.now) k c.args.places.now.reader.aside h.ends.page.in_hand.seen there }

pub returns-in-Leaf-clause-stands : goal.returns-in-Leaf-clause-stands
returns-in-Leaf-clause-stands g c spares k r faced =
    let leaf = c.args.places.now.reader.page in
    let h = rw c.in-Leaf.is at faced in
    let ends = h.ends in
    let may = c.leave_over.ensures.may spares k leaf.head (record {
      seeks = h.seeks;
      reader = h.reader;
      read = ends.page.in_hand.seen.read;
      level = ends.level;
      covered = rw h.key at ends.covered;
      standing = c.read_leaves_stood.ensures.leaf h.round.limits k r h.round.key leaf ends;
    }) in
    rw c.leave_over.ensures.leaves (may.0, may.1, c.leave_over.ensures.answers)

pub returns-in-Beside-clause-stands : goal.returns-in-Beside-clause-stands
returns-in-Beside-clause-stands g c spares k r faced =
    let reader = c.args.places.now.reader in
    let removed = reader.aside in
    let h = rw c.in-Beside.is at faced in
    let ends = h.ends in
    let may = c.leave_over-in-Beside.ensures.may spares k removed.head (record {
      seeks = h.seeks;
      reader = h.reader;
      read = ends.page.in_hand.seen.read;
      level = ends.level;
      covered = rw h.key at ends.covered;
      standing = c.read_leaves_stood.ensures.beside h.round.limits k r h.round.key reader.page removed ends;
    }) in
    rw c.leave_over-in-Beside.ensures.leaves (may.0, may.1, c.leave_over-in-Beside.ensures.answers)

pub begin_round-requires : goal.begin_round-requires
begin_round-requires g c = record { have = c.requires.have }

pub returns-in-Again-clause-stands : goal.returns-in-Again-clause-stands
returns-in-Again-clause-stands g c spares k r faced = c.begin_round.ensures.stands spares k r faced.seeks

pub returns-in-Again-clause-few : goal.returns-in-Again-clause-few
returns-in-Again-clause-few g c = rw c.in-Again.is c.begin_round.ensures.few

pub returns-in-Again-clause-asks : goal.returns-in-Again-clause-asks
returns-in-Again-clause-asks g c = c.begin_round.ensures.asks

pub returns-in-Again-clause-have : goal.returns-in-Again-clause-have
returns-in-Again-clause-have g c = c.begin_round.ensures.have

pub returns-in-Removed-clause-asks : goal.returns-in-Removed-clause-asks
returns-in-Removed-clause-asks g c spares = rw c.read_left.ensures.stand refl

pub returns-in-Removed-clause-have : goal.returns-in-Removed-clause-have
returns-in-Removed-clause-have g c = record { reader = rw c.read_left.ensures.round c.requires.have.reader; writer = rw c.read_left.ensures.writer c.requires.have.writer }

pub returns-in-Leaf-clause-few : goal.returns-in-Leaf-clause-few
returns-in-Leaf-clause-few g c spares r = rw (c.leave_over.ensures.leaves, c.in-Leaf.is) (omega arith)

pub returns-in-Leaf-clause-asks : goal.returns-in-Leaf-clause-asks
returns-in-Leaf-clause-asks g c spares = rw c.leave_over.ensures.leaves refl

pub returns-in-Leaf-clause-have : goal.returns-in-Leaf-clause-have
returns-in-Leaf-clause-have g c = rw c.leave_over.ensures.leaves (record { reader = c.requires.have.reader; writer = c.requires.have.writer })

pub returns-in-Beside-clause-few : goal.returns-in-Beside-clause-few
returns-in-Beside-clause-few g c spares r = rw (c.leave_over-in-Beside.ensures.leaves, c.in-Beside.is) (omega arith)

pub returns-in-Beside-clause-asks : goal.returns-in-Beside-clause-asks
returns-in-Beside-clause-asks g c spares = rw c.leave_over-in-Beside.ensures.leaves refl

pub returns-in-Beside-clause-have : goal.returns-in-Beside-clause-have
returns-in-Beside-clause-have g c = rw c.leave_over-in-Beside.ensures.leaves (record { reader = c.requires.have.reader; writer = c.requires.have.writer })

pub returns-in-Again-clause-goes : goal.returns-in-Again-clause-goes
returns-in-Again-clause-goes g c =
    let (spares, k, r, faced, there) = c.requires.faced in
    rw c.in-Again.is (c.begin_round.ensures.reads faced.reader)

pub returns-in-Removed-clause-goes : goal.returns-in-Removed-clause-goes
returns-in-Removed-clause-goes g c = rw (c.in-Removed.is, c.read_left.ensures.stand) (ap Read c.read_left.ensures.round)

pub returns-in-Leaf-clause-goes : goal.returns-in-Leaf-clause-goes
returns-in-Leaf-clause-goes g c = rw (c.in-Leaf.is, c.leave_over.ensures.leaves) refl

pub returns-in-Beside-clause-goes : goal.returns-in-Beside-clause-goes
returns-in-Beside-clause-goes g c = rw (c.in-Beside.is, c.leave_over-in-Beside.ensures.leaves) refl
