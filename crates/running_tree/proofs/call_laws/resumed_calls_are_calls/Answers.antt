use Rattle.running_tree.proofs.Resuming.{call_resumed}
use Rattle.running_tree.proofs.call_laws.resumed_calls_are_calls.Goals as goal

pub returns : goal.returns
returns c = call_resumed
