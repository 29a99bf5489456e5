use Rattle.traces.proofs.FittedExamples.{leaf_chain_fits, index_chain_fits, split_index_fits, long_index_fits}
use Rattle.traces.proofs.examples.chains_fit.Goals as goal

pub returns-clause-leaf : goal.returns-clause-leaf
returns-clause-leaf c = leaf_chain_fits

pub returns-clause-index : goal.returns-clause-index
returns-clause-index c = index_chain_fits

pub returns-clause-cut : goal.returns-clause-cut
returns-clause-cut c = split_index_fits

pub returns-clause-long : goal.returns-clause-long
returns-clause-long c = long_index_fits
