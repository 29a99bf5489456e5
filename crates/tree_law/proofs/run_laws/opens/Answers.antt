use Rattle.tree_law.proofs.trace.Beginning.{opens}
use Rattle.tree_law.proofs.run_laws.opens.Goals as goal

pub returns : goal.returns
returns c = opens
