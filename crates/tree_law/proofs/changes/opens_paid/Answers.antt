use Rattle.tree_law.proofs.changes.Paying.{opens_pay}
use Rattle.tree_law.proofs.changes.opens_paid.Goals as goal

pub returns : goal.returns
returns c = opens_pay
