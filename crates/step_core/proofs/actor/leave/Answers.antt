use Rattle.std.proofs.Common.{Some, refl}
use Rattle.bw_model.specs.declared.step.Answer.TheVariants.{Done}
use Rattle.bw_model.specs.declared.step.Step.TheVariants.{Leave}
use Rattle.core_memory.specs.Tables.{memory_in}
use Rattle.step_core.proofs.Taking.{goes_by, going, needs_room}
use Rattle.step_core.proofs.actor.leave.Goals as goal

pub leave-requires-clause-told : goal.leave-requires-clause-told
leave-requires-clause-told g c =
    let (limits, k, r, ready) = c.requires.knows in
    let on = going limits c.args.number k r (memory_in c.args.memory.now) Leave Done c.args.actor.now c.requires.running ready c.requires.leaves refl in
    record { limits = limits; actor = c.args.number; k = k; r = r; going = on.0 }

pub new-requires : goal.new-requires
new-requires g c =
    let (limits, k, r, ready) = c.requires.knows in
    let goes = goes_by limits c.args.number k r (memory_in c.args.memory.now) Leave Done c.args.actor.now c.leave.new.self Done (Some c.leave.new.reply)
    c.requires.running ready c.requires.leaves refl refl (c.leave.ensures.goes limits c.args.number k r) in
    record {
      room = λ pairs. c.requires.room
          (needs_room limits c.args.number k r (memory_in c.args.memory.now) Leave Done c.args.actor.now c.leave.new.self c.leave.new.reply c.requires.running ready.0 c.requires.leaves goes pairs);
    }

pub returns-clause-goes : goal.returns-clause-goes
returns-clause-goes g c = λ limits k r ready.
    rw c.new.ensures (goes_by limits c.args.number k r (memory_in c.args.memory.now) Leave Done c.args.actor.now c.leave.new.self Done (Some c.leave.new.reply)
    c.requires.running ready c.requires.leaves refl refl (c.leave.ensures.goes limits c.args.number k r))
