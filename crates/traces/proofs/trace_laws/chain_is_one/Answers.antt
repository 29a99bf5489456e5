use Rattle.traces.proofs.ChainLaws.{IsChainOf-unique}
use Rattle.traces.proofs.trace_laws.chain_is_one.Goals as goal

pub returns : goal.returns
returns c = IsChainOf-unique
