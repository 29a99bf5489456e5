use Rattle.linearization.proofs.runs.Foreign.{not_so_many}
use Rattle.linearization.proofs.examples.many_takes_are_refused.Goals as goal

pub returns : goal.returns
returns c = not_so_many
