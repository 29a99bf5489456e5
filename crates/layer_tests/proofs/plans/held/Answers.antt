use Rattle.std.proofs.Common.{arith}
use Rattle.traces.proofs.FittedExamples.{index_chain_fits}
use Rattle.layer_tests.proofs.plans.held.Goals as goal

pub page-requires-clause-chain : goal.page-requires-clause-chain
page-requires-clause-chain g c = rw (c.hold_of.ensures, c.term_of.ensures, c.index.ensures) (record { fitted = index_chain_fits.fitted.1.1; short = omega arith })
