use Rattle.seats.proofs.Resting.{idle_unless_busy}
use Rattle.seats.proofs.lists.are_idle.Goals as goal

pub returns : goal.returns
returns g c = idle_unless_busy c.args.seats.now c.are_idle.result c.are_idle.ensures
