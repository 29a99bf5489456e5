use Rattle.tree_law.proofs.trace.Separate.{separate}
use Rattle.tree_law.proofs.own.rows_are_apart.Goals as goal

pub returns : goal.returns
returns c = separate
