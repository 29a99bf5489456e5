use Rattle.tree_law.proofs.trace.Steps.{is_one_map}
use Rattle.tree_law.proofs.run_laws.is_one_map.Goals as goal

pub returns : goal.returns
returns c = is_one_map
