use Rattle.traces.proofs.TraceLaws.{command_of-push}
use Rattle.traces.proofs.trace_laws.command_grows.Goals as goal

pub returns : goal.returns
returns c = command_of-push
