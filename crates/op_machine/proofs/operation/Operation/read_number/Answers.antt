use Rattle.op_machine.proofs.Words.{ap, state_of}
use Rattle.bw_model.specs.declared.step.Answer.TheVariants.{Number}
use Rattle.round_model.specs.ReadEnds.{Again}
use Rattle.rounds.specs.ReadRounds.{read_again_if}
use Rattle.op_machine.specs.machine.Outcomes.{Read, read_out}
use Rattle.op_machine.proofs.Going.{follows, goes_on}
use Rattle.op_machine.proofs.InPlaces.{comes_to, reader_is, reads_into, reads_state, reads_step, stands_reading}
use Rattle.op_machine.proofs.operation.Operation.read_number.Goals as goal

pub returns-then-read_number : goal.returns-then-read_number
returns-then-read_number g c =
    let told = rw (← c.self.view_is, c.number.ensures) at c.requires.told in
    let places = c.self.inside.places in
    let spares = c.args.spares.now in
    let mid = c.read_number.new.self in
    let is = stands_reading places.reader.round places.writer.round places.change places.then places.reply places.lacks places.stand (rw (← c.self.view_is) at c.requires.reading) in
    let begins = c.begin_round.ensures in
    rw (← c.self.view_is, c.number.ensures) (follows _ _ _ _ told _ _
    (reads_into places mid spares (Number c.number.result) (read_again_if c.read_number.result) is c.read_number.ensures) (Read Again)
    (ap (λ b. read_out (read_again_if b)) c.if-read_number.true) _
    (comes_to c.self.inside.task c.self.inside.sweep (state_of mid) (state_of c.begin_round.new.places) spares (Read Again)
    (λ k r faced. begins.stands spares k r faced.seeks) (begins.few spares) (begins.asks spares))
    (reads_step places mid spares (Number c.number.result) c.self.inside.task (read_again_if c.read_number.result) is c.read_number.ensures _
    (rw c.if-read_number.true (begins.reads (reader_is c.self.inside.task spares told.k told.r places is told.works)))))

pub returns-else-read_number : goal.returns-else-read_number
returns-else-read_number g c =
    let told = rw (← c.self.view_is, c.number.ensures) at c.requires.told in
    let places = c.self.inside.places in
    let spares = c.args.spares.now in
    let mid = c.read_number.new.self in
    let is = stands_reading places.reader.round places.writer.round places.change places.then places.reply places.lacks places.stand (rw (← c.self.view_is) at c.requires.reading) in
    rw (← c.self.view_is, c.number.ensures) (goes_on _ _ _ _ told _ _
    (reads_into places mid spares (Number c.number.result) (read_again_if c.read_number.result) is c.read_number.ensures)
    (ap (λ b. read_out (read_again_if b)) c.if-read_number.false)
    (reads_step places mid spares (Number c.number.result) c.self.inside.task (read_again_if c.read_number.result) is c.read_number.ensures _
    (rw c.if-read_number.false (reads_state places mid spares (Number c.number.result) _ is c.read_number.ensures))))
