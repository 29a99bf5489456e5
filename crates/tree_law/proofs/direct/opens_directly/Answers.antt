use Rattle.tree_law.proofs.direct.Affording.{opens}
use Rattle.tree_law.proofs.direct.opens_directly.Goals as goal

pub returns : goal.returns
returns c = opens
