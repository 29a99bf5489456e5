use Rattle.op_machine.proofs.Words.{ap, refl, option_map}
use Rattle.bw_model.specs.declared.step.Answer.TheVariants.{Content}
use Rattle.rounds.specs.WriteRounds.{ended_write}
use Rattle.op_machine.specs.machine.Outcomes.{Written, written_out}
use Rattle.op_machine.proofs.Going.{faced, follows, goes_on, told_alone}
use Rattle.op_machine.proofs.InPlaces.{stands_writing, writes_into, writes_state, writes_step}
use Rattle.op_machine.proofs.operation.Operation.write_last_record.Goals as goal

pub end_writing-requires-clause-faced : goal.end_writing-requires-clause-faced
end_writing-requires-clause-faced g c =
    let told = rw (← c.self.view_is) at c.requires.told in
    let places = c.self.inside.places in
    let spares = c.args.spares.now in
    let mid = c.write_record.new.self in
    let is = stands_writing places.reader.round places.writer.round places.change places.then places.reply places.lacks places.stand (rw (← c.self.view_is) at c.requires.writing) in
    faced _ _ _ _ _ (rw (← c.write_record.ensures.same) at told) _ _
    (writes_into places mid spares (Content c.args.found.content) (option_map (ended_write mid.writer) c.write_record.result) is c.write_record.ensures.writes)
    (Written (ended_write mid.writer c.in-Some.ended)) (ap (λ o. written_out (option_map (ended_write mid.writer) o)) c.in-Some.is)

pub returns-in-Some-clause-asks : goal.returns-in-Some-clause-asks
returns-in-Some-clause-asks g c =
    let told = rw (← c.self.view_is) at c.requires.told in
    let places = c.self.inside.places in
    let spares = c.args.spares.now in
    let mid = c.write_record.new.self in
    let is = stands_writing places.reader.round places.writer.round places.change places.then places.reply places.lacks places.stand (rw (← c.self.view_is) at c.requires.writing) in
    let ends = c.end_writing.ensures in
    rw (← c.self.view_is) (follows _ _ _ _ (told_alone _ _ _ _ told) _ _
    (writes_into places mid spares (Content c.args.found.content) (option_map (ended_write mid.writer) c.write_record.result) is c.write_record.ensures.writes)
    (Written (ended_write mid.writer c.in-Some.ended)) (ap (λ o. written_out (option_map (ended_write mid.writer) o)) c.in-Some.is) _
    (record { stands = ends.stands; few = ends.few; asks = ends.asks; same = ends.same; sweep = refl })
    (writes_step places mid spares (Content c.args.found.content) c.self.inside.task (option_map (ended_write mid.writer) c.write_record.result) is
    c.write_record.ensures.writes _ (rw c.in-Some.is ends.goes)))

pub returns-in_default-clause-asks : goal.returns-in_default-clause-asks
returns-in_default-clause-asks g c =
    let told = rw (← c.self.view_is) at c.requires.told in
    let places = c.self.inside.places in
    let spares = c.args.spares.now in
    let mid = c.write_record.new.self in
    let is = stands_writing places.reader.round places.writer.round places.change places.then places.reply places.lacks places.stand (rw (← c.self.view_is) at c.requires.writing) in
    rw (← c.self.view_is) (goes_on _ _ _ _ (told_alone _ _ _ _ told) _ _
    (writes_into places mid spares (Content c.args.found.content) (option_map (ended_write mid.writer) c.write_record.result) is c.write_record.ensures.writes)
    (ap (λ o. written_out (option_map (ended_write mid.writer) o)) c.in_default.is)
    (writes_step places mid spares (Content c.args.found.content) c.self.inside.task (option_map (ended_write mid.writer) c.write_record.result) is
    c.write_record.ensures.writes _
    (rw c.in_default.is (writes_state places mid spares (Content c.args.found.content) _ is c.write_record.ensures.writes))))
