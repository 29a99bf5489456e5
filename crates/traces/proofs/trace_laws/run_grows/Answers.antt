use Rattle.traces.proofs.RunLaws.{IsRun-push}
use Rattle.traces.proofs.trace_laws.run_grows.Goals as goal

pub returns : goal.returns
returns c = IsRun-push
