use Rattle.tree_law.proofs.runs.LinkRun.{all_links_disciplined}
use Rattle.tree_law.proofs.examples.all_links_are_disciplined.Goals as goal

pub returns : goal.returns
returns c = all_links_disciplined
