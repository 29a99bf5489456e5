use Rattle.tree_law.proofs.runs.RemovalRun.{removal_disciplined}
use Rattle.tree_law.proofs.examples.removal_is_disciplined.Goals as goal

pub returns : goal.returns
returns c = removal_disciplined
