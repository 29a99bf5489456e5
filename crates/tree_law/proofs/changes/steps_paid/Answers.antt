use Rattle.tree_law.proofs.changes.Paying.{steps_pay}
use Rattle.tree_law.proofs.changes.steps_paid.Goals as goal

pub returns : goal.returns
returns c = steps_pay
