use Rattle.tree_law.proofs.direct.Affording.{steps}
use Rattle.tree_law.proofs.direct.steps_directly.Goals as goal

pub returns : goal.returns
returns c =
    λ limits entries actor left rest step answer reply state allowed useful is kept accounts spent. steps limits entries actor step answer reply state
    allowed.may useful is kept left rest accounts spent
