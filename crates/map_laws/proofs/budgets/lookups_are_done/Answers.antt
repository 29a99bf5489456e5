use Rattle.map_laws.proofs.SpentSteps.{lookups_done}
use Rattle.map_laws.proofs.budgets.lookups_are_done.Goals as goal

pub returns : goal.returns
returns c = lookups_done
