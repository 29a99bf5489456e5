use Rattle.linearization.proofs.runs.TooMany.{too_many}
use Rattle.linearization.proofs.examples.nine_changes_are_refused.Goals as goal

pub returns : goal.returns
returns c = too_many
