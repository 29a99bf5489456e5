use Rattle.traces.proofs.RunLaws.{IsRun-front, IsRun-last}
use Rattle.traces.proofs.trace_laws.run_shrinks.Goals as goal

pub returns-clause-front : goal.returns-clause-front
returns-clause-front c = IsRun-front

pub returns-clause-last : goal.returns-clause-last
returns-clause-last c = IsRun-last
