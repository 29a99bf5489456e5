use Rattle.running_tree.proofs.LackLaws.{ends_last}
use Rattle.running_tree.proofs.call_laws.done_calls_reply_last.Goals as goal

pub returns : goal.returns
returns c = ends_last
