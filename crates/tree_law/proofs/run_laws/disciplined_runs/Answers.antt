use Rattle.tree_law.proofs.trace.Runs.{disciplined, linearized}
use Rattle.tree_law.proofs.run_laws.disciplined_runs.Goals as goal

pub returns-clause-states : goal.returns-clause-states
returns-clause-states c = disciplined

pub returns-clause-linearized : goal.returns-clause-linearized
returns-clause-linearized c = linearized
