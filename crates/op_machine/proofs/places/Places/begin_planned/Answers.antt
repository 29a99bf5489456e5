use Rattle.op_machine.proofs.BegunPlans.{begun_plan}
use Rattle.op_machine.proofs.places.Places.begin_planned.Goals as goal

pub begin-requires : goal.begin-requires
begin-requires g c = rw c.limits.ensures (record { target = c.requires.target; spells = c.requires.spells; room = c.requires.room })

pub returns-clause-begun : goal.returns-clause-begun
returns-clause-begun g c = begun_plan c.args.task.now c.args.spares.now _ _ c.begin.new.self (rw c.limits.ensures at c.begin.ensures)
