use Rattle.tree_law.proofs.changes.Paying.{runs_have_few_changes}
use Rattle.tree_law.proofs.changes.few_changes.Goals as goal

pub returns : goal.returns
returns c = runs_have_few_changes
