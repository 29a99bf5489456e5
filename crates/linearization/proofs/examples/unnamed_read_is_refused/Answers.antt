use Rattle.linearization.proofs.runs.Refused.{not_faithful}
use Rattle.linearization.proofs.examples.unnamed_read_is_refused.Goals as goal

pub returns : goal.returns
returns c = not_faithful
