use Rattle.row_chain.proofs.Words.{not, is_below, is_under, and_left, low_in, high_in}
use Rattle.traces.proofs.FittedLaws.{has_child}
use Rattle.row_chain.proofs.chain.Chain.child_of.Goals as goal

pub returns-clause-index : goal.returns-clause-index
returns-clause-index g c index covered =
    let chain = c.args.self.now.records in
    let passing = and_left (not (is_below c.args.key.now (low_in chain))) (is_under c.args.key.now (high_in chain)) covered in
    has_child chain (λ q. not (is_below c.args.key.now q)) c.keeps_rules.ensures.fitted index passing _ c.greatest_child.result c.greatest_child.ensures.child
