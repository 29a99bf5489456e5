use Rattle.tree_law.proofs.runs.IndexRemovalRun.{index_removal_disciplined}
use Rattle.tree_law.proofs.examples.index_removal_is_disciplined.Goals as goal

pub returns : goal.returns
returns c = index_removal_disciplined
