use Rattle.linearization.proofs.runs.Foreign.{not_filled, not_met}
use Rattle.linearization.proofs.examples.foreign_slots_are_refused.Goals as goal

pub returns-clause-reading : goal.returns-clause-reading
returns-clause-reading c = not_met

pub returns-clause-filling : goal.returns-clause-filling
returns-clause-filling c = not_filled
