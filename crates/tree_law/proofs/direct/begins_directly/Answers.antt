use Rattle.tree_law.proofs.direct.Affording.{begins}
use Rattle.tree_law.proofs.direct.begins_directly.Goals as goal

pub returns : goal.returns
returns c = λ limits entries actor left command kept few. begins limits entries actor command kept left few
