use Rattle.traces.proofs.OwnEntries.{knows_own}
use Rattle.tree_law.proofs.run_laws.knowledge_is_own.Goals as goal

pub returns : goal.returns
returns c = knows_own
