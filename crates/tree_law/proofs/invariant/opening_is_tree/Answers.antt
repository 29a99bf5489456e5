use Rattle.tree_law.proofs.trace.Opening.{opens}
use Rattle.tree_law.proofs.invariant.opening_is_tree.Goals as goal

pub returns : goal.returns
returns c = opens
