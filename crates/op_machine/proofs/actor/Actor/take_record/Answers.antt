use Rattle.std.proofs.Common.{sym, ◌∙◌}
use Rattle.op_machine.proofs.ActorGoing.{asked_here, command_same, goes_here, shown_then, told_there_here}
use Rattle.op_machine.proofs.actor.Actor.take_record.Goals as goal

pub take_record-requires : goal.take_record-requires
take_record-requires g c =
    let told = rw (← c.self.view_is) at c.requires.told in
    let asked = rw (← c.self.view_is) at c.requires.asked in
    let inside = c.self.inside in
    record {
      asked = asked_here told.limits told.actor told.k told.r inside.is_running inside.operation inside.hand inside.lacks _ told.going _ asked;
      told = told_there_here told.limits told.actor told.k told.r inside.is_running inside.operation inside.hand inside.lacks _ told.going _ told.there;
    }

pub wanted-requires-clause-shown : goal.wanted-requires-clause-shown
wanted-requires-clause-shown g c =
    let told = rw (← c.self.view_is) at c.requires.told in
    shown_then told.limits told.actor told.k told.r c.self.inside.is_running c.self.inside.operation c.self.inside.hand c.self.inside.lacks _ told.going _ _ c.take_record.ensures.takes

pub returns-clause-goes : goal.returns-clause-goes
returns-clause-goes g c =
    let asked = rw (← c.self.view_is) at c.requires.asked in
    rw (← c.self.view_is) (λ limits number k r going.
    goes_here limits number k r c.self.inside.is_running c.self.inside.operation c.self.inside.hand c.self.inside.lacks _ going _ _ c.take_record.ensures.takes
    _ (λ leaves. let no = sym asked ∙ leaves in cc) c.wanted.ensures c.errands.ensures.few)

pub returns-clause-command : goal.returns-clause-command
returns-clause-command g c =
    rw (← c.self.view_is) (command_same c.self.inside.is_running c.self.inside.operation c.take_record.new.self c.self.inside.hand c.take_record.new.hand
    c.self.invariant c.take_record.ensures.takes.asks c.take_record.ensures.takes.same)
