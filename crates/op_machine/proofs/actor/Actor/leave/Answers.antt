use Rattle.bw_model.specs.declared.step.Answer.TheVariants.{Done}
use Rattle.op_machine.proofs.ActorGoing.{done_here, leaves_here}
use Rattle.op_machine.proofs.actor.Actor.leave.Goals as goal

pub leave-requires : goal.leave-requires
leave-requires g c =
    let told = rw (← c.self.view_is) at c.requires.told in
    record {
      leaving = leaves_here told.limits told.actor told.k told.r c.self.inside.is_running c.self.inside.operation c.self.inside.hand c.self.inside.lacks
          Done told.going (rw (← c.self.view_is) at c.requires.leaves);
    }

pub returns-clause-goes : goal.returns-clause-goes
returns-clause-goes g c =
    rw (← c.self.view_is) (λ limits number k r going. done_here limits number k r c.self.inside.is_running c.self.inside.operation c.self.inside.hand
    c.self.inside.lacks Done going c.leave.new.reply c.lacks-self-inside.result (rw c.lacks-self-inside.ensures c.leave.ensures.reply)
    c.leave.ensures.obeys)
