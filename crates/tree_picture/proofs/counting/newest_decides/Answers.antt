use Rattle.tree_picture.proofs.Lines.{counts, is_decided}
use Rattle.tree_picture.proofs.counting.newest_decides.Goals as goal

pub returns-clause-counts : goal.returns-clause-counts
returns-clause-counts c = counts

pub returns-clause-decided : goal.returns-clause-decided
returns-clause-decided c = is_decided
