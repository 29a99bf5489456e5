use Rattle.tree_law.proofs.trace.Steps.{frees_by_rule}
use Rattle.tree_law.proofs.run_laws.frees_by_rule.Goals as goal

pub returns : goal.returns
returns c = frees_by_rule
