use Rattle.row_chain.proofs.Words.{is_below}
use Rattle.traces.proofs.FittedLaws.{has_child}
use Rattle.row_chain.proofs.chain.Chain.child_below.Goals as goal

pub returns-clause-index : goal.returns-clause-index
returns-clause-index g c index above =
    has_child c.args.self.now.records (λ q. is_below q c.args.key.now) c.keeps_rules.ensures.fitted index above _ c.greatest_child.result c.greatest_child.ensures.child
