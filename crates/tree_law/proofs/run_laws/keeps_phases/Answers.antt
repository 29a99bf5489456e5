use Rattle.tree_law.proofs.trace.Steps.{keeps_phases}
use Rattle.tree_law.proofs.run_laws.keeps_phases.Goals as goal

pub returns : goal.returns
returns c = keeps_phases
