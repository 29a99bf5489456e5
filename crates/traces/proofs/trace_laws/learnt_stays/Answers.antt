use Rattle.traces.proofs.TraceLaws.{HasLearnt-kept}
use Rattle.traces.proofs.trace_laws.learnt_stays.Goals as goal

pub returns : goal.returns
returns c = HasLearnt-kept
