use Rattle.tree_law.proofs.shape.Leaves.{leaf_pages, has_map_of_log}
use Rattle.tree_law.proofs.run_laws.leaves_stand.Goals as goal

pub returns-clause-stand : goal.returns-clause-stand
returns-clause-stand c = λ limits entries state. leaf_pages limits entries state

pub returns-clause-map : goal.returns-clause-map
returns-clause-map c = λ limits entries linear. has_map_of_log limits entries linear
