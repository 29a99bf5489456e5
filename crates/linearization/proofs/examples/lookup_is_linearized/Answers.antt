use Rattle.linearization.proofs.runs.Lookup.{is_linearized, is_orderly}
use Rattle.linearization.proofs.examples.lookup_is_linearized.Goals as goal

pub returns-clause-linearized : goal.returns-clause-linearized
returns-clause-linearized c = is_linearized

pub returns-clause-orderly : goal.returns-clause-orderly
returns-clause-orderly c = is_orderly
