use Rattle.tree_law.proofs.runs.SweepRun.{sweep_disciplined}
use Rattle.tree_law.proofs.examples.sweep_is_disciplined.Goals as goal

pub returns : goal.returns
returns c = sweep_disciplined
