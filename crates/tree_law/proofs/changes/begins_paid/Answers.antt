use Rattle.tree_law.proofs.changes.Paying.{begins_pay}
use Rattle.tree_law.proofs.changes.begins_paid.Goals as goal

pub returns : goal.returns
returns c = begins_pay
