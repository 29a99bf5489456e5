use Rattle.std.proofs.Common.{None, refl}
use Rattle.bw_model.specs.declared.step.Answer.TheVariants.{Content}
use Rattle.op_machine.proofs.Going.{goes_on, told_alone}
use Rattle.op_machine.proofs.InPlaces.{stands_writing, writes_into, writes_state, writes_step}
use Rattle.op_machine.proofs.operation.Operation.write_record.Goals as goal

pub returns-then-is_some-clause-asks : goal.returns-then-is_some-clause-asks
returns-then-is_some-clause-asks g c =
    let told = rw (← c.self.view_is) at c.requires.told in
    let places = c.self.inside.places in
    let spares = c.args.spares.now in
    let mid = c.write_on.new.self in
    let is = stands_writing places.reader.round places.writer.round places.change places.then places.reply places.lacks places.stand (rw (← c.self.view_is) at c.requires.writing) in
    rw (← c.self.view_is) (goes_on _ _ _ _ (told_alone _ _ _ _ told) _ _ (writes_into places mid spares (Content c.args.found.content) None is c.write_on.ensures.writes) refl
    (writes_step places mid spares (Content c.args.found.content) c.self.inside.task None is c.write_on.ensures.writes _
    (writes_state places mid spares (Content c.args.found.content) None is c.write_on.ensures.writes)))
