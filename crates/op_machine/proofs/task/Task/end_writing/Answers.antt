use Rattle.std.specs.Prelude.{not}
use Rattle.op_machine.proofs.Words.{ap, refl, left_round_of, seen_is_read}
use Rattle.op_machine.specs.machine.States.{Write}
use Rattle.op_machine.proofs.Plans.{at_sought_leaf, errands_same, left_is_of}
use Rattle.op_machine.proofs.task.Task.end_writing.Goals as goal

pub returns-in-Again-clause-stands : goal.returns-in-Again-clause-stands
returns-in-Again-clause-stands g c k r h = c.begin_round.ensures.stands c.args.spares.now k r h.seeks

pub returns-in-Removed-clause-stands : goal.returns-in-Removed-clause-stands
returns-in-Removed-clause-stands g c k r faced =
    let h = rw c.in-Removed.is at faced in
    let have = c.requires.have.writer in
    rw c.write_left.ensures.goes (record {
      seeks = h.seeks;
      writer = h.writer;
      round_of = left_is_of c.args.self.now c.args.places.now.writer have;
      shows = (h.seeks.inside, refl, refl, record { removed = c.args.places.now.writer.page; gone = rw have (rw h.round_of.limits at h.ends); is = refl; low = refl; level = refl; unread = tt });
    })

pub write_left-requires : goal.write_left-requires
write_left-requires g c =
    let (k, r, faced, there) = c.requires.faced in
    let h = rw c.in-Removed.is at faced in
    record { read = seen_is_read (g.R.Rows.has c.args.rows.now c.args.pass.now) k c.args.places.now.writer.page h.ends.in_hand.seen there }

pub begin_round-requires : goal.begin_round-requires
begin_round-requires g c = record { have = c.requires.have }

pub begin_due-requires : goal.begin_due-requires
begin_due-requires g c = record { have = c.requires.have; faced = let (k, r, faced, there) = c.requires.faced in (k, r, rw c.in-Due.is at faced) }

pub end_at_sought_leaf-requires : goal.end_at_sought_leaf-requires
end_at_sought_leaf-requires g c =
    let (k, r, faced, there) = c.requires.faced in
    let h = rw c.in-Leaf.is at faced in
    let writer = c.args.places.now.writer in
    record { have = c.requires.have; faced = (k, r, at_sought_leaf c.args.self.now c.args.spares.now k r writer.round.parent writer.page h, there) }

pub returns-in-Due-clause-stands : goal.returns-in-Due-clause-stands
returns-in-Due-clause-stands g c = rw c.in-Due.is c.begin_due.ensures.stands

pub returns-in-Due-clause-few : goal.returns-in-Due-clause-few
returns-in-Due-clause-few g c k r h = rw c.in-Due.is (errands_same c.args.self.now.limits c.args.self.now.errands _ _ (c.begin_due.ensures.few r))

pub returns-in-Due-clause-asks : goal.returns-in-Due-clause-asks
returns-in-Due-clause-asks g c = c.begin_due.ensures.asks

pub returns-in-Due-clause-have : goal.returns-in-Due-clause-have
returns-in-Due-clause-have g c = c.begin_due.ensures.have

pub returns-in-Leaf-clause-stands : goal.returns-in-Leaf-clause-stands
returns-in-Leaf-clause-stands g c k r faced =
    let h = rw c.in-Leaf.is at faced in
    let writer = c.args.places.now.writer in
    c.end_at_sought_leaf.ensures.stands k r (at_sought_leaf c.args.self.now c.args.spares.now k r writer.round.parent writer.page h)

pub returns-in-Leaf-clause-few : goal.returns-in-Leaf-clause-few
returns-in-Leaf-clause-few g c k r h = rw c.in-Leaf.is (c.end_at_sought_leaf.ensures.few r)

pub returns-in-Leaf-clause-asks : goal.returns-in-Leaf-clause-asks
returns-in-Leaf-clause-asks g c = c.end_at_sought_leaf.ensures.asks

pub returns-in-Leaf-clause-have : goal.returns-in-Leaf-clause-have
returns-in-Leaf-clause-have g c = c.end_at_sought_leaf.ensures.have

pub returns-in-Removed-clause-goes : goal.returns-in-Removed-clause-goes
returns-in-Removed-clause-goes g c = rw (c.in-Removed.is, c.write_left.ensures.goes)
    (ap (λ l. Write (record (left_round_of c.args.places.now.writer) { limits = l; splits = not l.is_large })) c.requires.have.writer)

pub returns-in-Due-clause-goes : goal.returns-in-Due-clause-goes
returns-in-Due-clause-goes g c = rw c.in-Due.is c.begin_due.ensures.goes

pub returns-in-Leaf-clause-goes : goal.returns-in-Leaf-clause-goes
returns-in-Leaf-clause-goes g c = rw c.in-Leaf.is c.end_at_sought_leaf.ensures.goes
