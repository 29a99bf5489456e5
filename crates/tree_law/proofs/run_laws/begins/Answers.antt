use Rattle.tree_law.proofs.trace.Beginning.{begins}
use Rattle.tree_law.proofs.run_laws.begins.Goals as goal

pub returns : goal.returns
returns c = begins
