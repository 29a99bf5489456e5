use Rattle.tree_law.proofs.runs.HelpRun.{help_disciplined}
use Rattle.tree_law.proofs.examples.helped_split_is_disciplined.Goals as goal

pub returns : goal.returns
returns c = help_disciplined
