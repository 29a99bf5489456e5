use Rattle.bw_model.proofs.ListedPairs.{listed}
use Rattle.bw_model.proofs.examples.pairs_are_listed.Goals as goal

pub returns : goal.returns
returns c = listed
