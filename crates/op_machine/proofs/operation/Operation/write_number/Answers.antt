use Rattle.op_machine.proofs.Words.{ap, state_of}
use Rattle.bw_model.specs.declared.step.Answer.TheVariants.{Number}
use Rattle.round_model.specs.WriteEnds.{Again}
use Rattle.rounds.specs.WriteRounds.{write_again_if}
use Rattle.op_machine.specs.machine.Outcomes.{Written, written_out}
use Rattle.op_machine.proofs.Going.{follows, goes_on}
use Rattle.op_machine.proofs.InPlaces.{comes_to, stands_writing, writer_is, writes_into, writes_state, writes_step}
use Rattle.op_machine.proofs.operation.Operation.write_number.Goals as goal

pub returns-then-write_number : goal.returns-then-write_number
returns-then-write_number g c =
    let told = rw (← c.self.view_is, c.number.ensures) at c.requires.told in
    let places = c.self.inside.places in
    let spares = c.args.spares.now in
    let mid = c.write_number.new.self in
    let is = stands_writing places.reader.round places.writer.round places.change places.then places.reply places.lacks places.stand (rw (← c.self.view_is) at c.requires.writing) in
    let begins = c.begin_round.ensures in
    rw (← c.self.view_is, c.number.ensures) (follows _ _ _ _ told _ _
    (writes_into places mid spares (Number c.number.result) (write_again_if c.write_number.result) is c.write_number.ensures) (Written Again)
    (ap (λ b. written_out (write_again_if b)) c.if-write_number.true) _
    (comes_to c.self.inside.task c.self.inside.sweep (state_of mid) (state_of c.begin_round.new.places) spares (Written Again)
    (λ k r faced. begins.stands spares k r faced.seeks) (begins.few spares) (begins.asks spares))
    (writes_step places mid spares (Number c.number.result) c.self.inside.task (write_again_if c.write_number.result) is c.write_number.ensures _
    (rw c.if-write_number.true (begins.writes (writer_is c.self.inside.task spares told.k told.r places is told.works)))))

pub returns-else-write_number : goal.returns-else-write_number
returns-else-write_number g c =
    let told = rw (← c.self.view_is, c.number.ensures) at c.requires.told in
    let places = c.self.inside.places in
    let spares = c.args.spares.now in
    let mid = c.write_number.new.self in
    let is = stands_writing places.reader.round places.writer.round places.change places.then places.reply places.lacks places.stand (rw (← c.self.view_is) at c.requires.writing) in
    rw (← c.self.view_is, c.number.ensures) (goes_on _ _ _ _ told _ _
    (writes_into places mid spares (Number c.number.result) (write_again_if c.write_number.result) is c.write_number.ensures)
    (ap (λ b. written_out (write_again_if b)) c.if-write_number.false)
    (writes_step places mid spares (Number c.number.result) c.self.inside.task (write_again_if c.write_number.result) is c.write_number.ensures _
    (rw c.if-write_number.false (writes_state places mid spares (Number c.number.result) _ is c.write_number.ensures))))
