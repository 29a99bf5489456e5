use Rattle.linearization.proofs.FaithLaws.{KnowsRow-kept}
use Rattle.linearization.proofs.log_laws.knowledge_stays.Goals as goal

pub returns : goal.returns
returns c = KnowsRow-kept
