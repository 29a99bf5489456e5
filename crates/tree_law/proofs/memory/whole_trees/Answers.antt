use Rattle.tree_law.proofs.WholeTrees.{listed_tree}
use Rattle.tree_law.proofs.memory.whole_trees.Goals as goal

pub returns : goal.returns
returns c = λ limits entries state. (listed_tree limits entries state).tree
