use Rattle.linearization.proofs.runs.RowReuse.{unruly}
use Rattle.linearization.proofs.examples.hurried_reuse_is_refused.Goals as goal

pub returns : goal.returns
returns c = unruly
