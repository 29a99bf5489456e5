use Rattle.linearization.proofs.runs.InsertAndLookup.{is_linearized}
use Rattle.linearization.proofs.examples.insert_and_lookup_is_linearized.Goals as goal

pub returns : goal.returns
returns c = is_linearized
