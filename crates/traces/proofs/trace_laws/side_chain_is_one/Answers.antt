use Rattle.traces.proofs.ChainLaws.{IsSideChainFrom-unique}
use Rattle.traces.proofs.trace_laws.side_chain_is_one.Goals as goal

pub returns : goal.returns
returns c = IsSideChainFrom-unique
