use Rattle.op_machine.proofs.BegunPlans.{begun_plan}
use Rattle.op_machine.proofs.places.Places.begin_due.Goals as goal

pub begin-requires : goal.begin-requires
begin-requires g c =
    rw (c.limits.ensures, c.take_due-after.ensures.plan)
    (record { target = rw (← c.self.view_is) at c.requires.target; spells = rw (← c.self.view_is) at c.requires.spells; room = c.requires.room })

pub returns-clause-begun : goal.returns-clause-begun
returns-clause-begun g c =
    rw (← c.self.view_is, ← c.take_due-after.ensures.after, ← c.take_due-after.ensures.plan)
    (begun_plan c.args.task.now c.args.spares.now _ _ c.begin.new.self (rw c.limits.ensures at c.begin.ensures))
