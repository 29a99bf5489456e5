use Rattle.op_machine.proofs.ActorGoing.{command_same, goes_here, shown_then, stays_here, told_here}
use Rattle.op_machine.proofs.actor.Actor.go_on.Goals as goal

pub go_on-requires : goal.go_on-requires
go_on-requires g c =
    let told = rw (← c.self.view_is) at c.requires.told in
    let stays = rw (← c.self.view_is) at c.requires.stays in
    record {
      told = told_here told.limits told.actor told.k told.r c.self.inside.is_running c.self.inside.operation c.self.inside.hand c.self.inside.lacks _ told.going;
      stays = stays_here told.limits told.actor told.k told.r c.self.inside.is_running c.self.inside.operation c.self.inside.hand c.self.inside.lacks _ told.going stays;
    }

pub wanted-requires-clause-shown : goal.wanted-requires-clause-shown
wanted-requires-clause-shown g c =
    let told = rw (← c.self.view_is) at c.requires.told in
    shown_then told.limits told.actor told.k told.r c.self.inside.is_running c.self.inside.operation c.self.inside.hand c.self.inside.lacks _ told.going _ _ c.go_on.ensures

pub returns-clause-goes : goal.returns-clause-goes
returns-clause-goes g c =
    let stays = rw (← c.self.view_is) at c.requires.stays in
    rw (← c.self.view_is) (λ limits number k r going.
    goes_here limits number k r c.self.inside.is_running c.self.inside.operation c.self.inside.hand c.self.inside.lacks _ going _ _ c.go_on.ensures _ stays c.wanted.ensures c.errands.ensures.few)

pub returns-clause-command : goal.returns-clause-command
returns-clause-command g c =
    rw (← c.self.view_is)
    (command_same c.self.inside.is_running c.self.inside.operation c.go_on.new.self c.self.inside.hand c.go_on.new.hand c.self.invariant c.go_on.ensures.asks c.go_on.ensures.same)
