use Rattle.tree_law.proofs.trace.Others.{own_lasts}
use Rattle.tree_law.proofs.own.own_lasts.Goals as goal

pub returns : goal.returns
returns c = own_lasts
