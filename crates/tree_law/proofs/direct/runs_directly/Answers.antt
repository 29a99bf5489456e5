use Rattle.tree_law.proofs.direct.Along.{direct_runs}
use Rattle.tree_law.proofs.direct.runs_directly.Goals as goal

pub returns : goal.returns
returns c = direct_runs
