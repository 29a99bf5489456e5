use Rattle.tree_law.proofs.epochs.Allowed.{step_law}
use Rattle.tree_law.proofs.invariant.one_step_keeps.Goals as goal

pub returns : goal.returns
returns c = step_law
