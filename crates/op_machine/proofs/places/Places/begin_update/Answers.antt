use Rattle.op_machine.proofs.BegunPlans.{begun_plan}
use Rattle.op_machine.proofs.places.Places.begin_update.Goals as goal

pub begin_update-requires : goal.begin_update-requires
begin_update-requires g c =
    rw (c.limits.ensures, c.pid-pid.ensures, c.head-head.ensures, c.page-leaf.ensures)
    (record { target = rw (← c.self.view_is) at c.requires.target; spells = c.requires.spells; room = c.requires.room })

pub returns-clause-begun : goal.returns-clause-begun
returns-clause-begun g c =
    rw (← c.self.view_is)
    (begun_plan c.args.task.now c.args.spares.now _ _ c.begin_update.new.self (rw (c.limits.ensures, c.pid-pid.ensures, c.head-head.ensures, c.page-leaf.ensures) at c.begin_update.ensures))
