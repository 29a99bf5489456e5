use Rattle.rounds.proofs.Words.{refl}
use Rattle.traces.specs.chain.Chains.{high_in}
use Rattle.round_model.specs.Ways.{passes}
use Rattle.rounds.proofs.WayTurns.{leads_right, stays_left}
use Rattle.rounds.proofs.way.right_on_way.Goals as goal

pub returns-then-ends_on_way-clause-leads : goal.returns-then-ends_on_way-clause-leads
returns-then-ends_on_way-clause-leads g c =
    let chain = c.args.chain.now.records in
    leads_right (passes c.args.below c.args.key.now) chain (high_in chain) c.ends_on_way.result c.right.result c.keeps_rules.ensures.fitted refl
    c.ends_on_way.ensures.ends c.if-ends_on_way.true c.right.ensures.right

pub returns-clause-leads : goal.returns-clause-leads
returns-clause-leads g c =
    let chain = c.args.chain.now.records in
    stays_left (passes c.args.below c.args.key.now) chain (high_in chain) c.ends_on_way.result refl c.ends_on_way.ensures.ends c.if-ends_on_way.false
