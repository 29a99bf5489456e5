use Rattle.op_machine.proofs.Words.{ap, option_map, state_of}
use Rattle.bw_model.specs.declared.step.Answer.TheVariants.{Content}
use Rattle.rounds.specs.ReadRounds.{ended_read}
use Rattle.op_machine.specs.machine.Outcomes.{Read, read_out}
use Rattle.op_machine.proofs.Going.{faced, follows, goes_on, told_alone}
use Rattle.op_machine.proofs.InPlaces.{comes_to, reads_into, reads_state, reads_step, stands_reading}
use Rattle.op_machine.proofs.operation.Operation.read_record.Goals as goal

pub end_reading-requires-clause-faced : goal.end_reading-requires-clause-faced
end_reading-requires-clause-faced g c =
    let told = rw (← c.self.view_is) at c.requires.told in
    let places = c.self.inside.places in
    let spares = c.args.spares.now in
    let mid = c.read_record.new.self in
    let is = stands_reading places.reader.round places.writer.round places.change places.then places.reply places.lacks places.stand (rw (← c.self.view_is) at c.requires.reading) in
    let there = faced _ _ _ _ _ (rw (← c.read_record.ensures.same) at told) _ _
    (reads_into places mid spares (Content c.args.found.content) (option_map (ended_read mid.reader) c.read_record.result) is c.read_record.ensures.reads)
    (Read (ended_read mid.reader c.in-Some.ended)) (ap (λ o. read_out (option_map (ended_read mid.reader) o)) c.in-Some.is) in
    (spares, there.0, there.1, there.2, there.3)

pub returns-in-Some-clause-asks : goal.returns-in-Some-clause-asks
returns-in-Some-clause-asks g c =
    let told = rw (← c.self.view_is) at c.requires.told in
    let places = c.self.inside.places in
    let spares = c.args.spares.now in
    let mid = c.read_record.new.self in
    let is = stands_reading places.reader.round places.writer.round places.change places.then places.reply places.lacks places.stand (rw (← c.self.view_is) at c.requires.reading) in
    let ends = c.end_reading.ensures in
    let outcome = Read (ended_read mid.reader c.in-Some.ended) in
    rw (← c.self.view_is) (follows _ _ _ _ (told_alone _ _ _ _ told) _ _
    (reads_into places mid spares (Content c.args.found.content) (option_map (ended_read mid.reader) c.read_record.result) is c.read_record.ensures.reads)
    outcome (ap (λ o. read_out (option_map (ended_read mid.reader) o)) c.in-Some.is) _
    (comes_to c.self.inside.task c.self.inside.sweep (state_of mid) (state_of c.end_reading.new.places) spares outcome (ends.stands spares) (ends.few spares) (ends.asks spares))
    (reads_step places mid spares (Content c.args.found.content) c.self.inside.task (option_map (ended_read mid.reader) c.read_record.result) is
    c.read_record.ensures.reads _ (rw c.in-Some.is ends.goes)))

pub returns-in_default-clause-asks : goal.returns-in_default-clause-asks
returns-in_default-clause-asks g c =
    let told = rw (← c.self.view_is) at c.requires.told in
    let places = c.self.inside.places in
    let spares = c.args.spares.now in
    let mid = c.read_record.new.self in
    let is = stands_reading places.reader.round places.writer.round places.change places.then places.reply places.lacks places.stand (rw (← c.self.view_is) at c.requires.reading) in
    rw (← c.self.view_is) (goes_on _ _ _ _ (told_alone _ _ _ _ told) _ _
    (reads_into places mid spares (Content c.args.found.content) (option_map (ended_read mid.reader) c.read_record.result) is c.read_record.ensures.reads)
    (ap (λ o. read_out (option_map (ended_read mid.reader) o)) c.in_default.is)
    (reads_step places mid spares (Content c.args.found.content) c.self.inside.task (option_map (ended_read mid.reader) c.read_record.result) is
    c.read_record.ensures.reads _ (rw c.in_default.is (reads_state places mid spares (Content c.args.found.content) _ is c.read_record.ensures.reads))))
