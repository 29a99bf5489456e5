use Rattle.tree_law.proofs.trace.Steps.{index_is_exact}
use Rattle.tree_law.proofs.run_laws.index_is_exact.Goals as goal

pub returns : goal.returns
returns c = index_is_exact
