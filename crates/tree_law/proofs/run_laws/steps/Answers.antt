use Rattle.tree_law.proofs.trace.Steps.{steps}
use Rattle.tree_law.proofs.run_laws.steps.Goals as goal

pub returns : goal.returns
returns c = steps
