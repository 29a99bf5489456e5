use Rattle.rounds.proofs.WayTurns.{goes_inside}
use Rattle.rounds.proofs.way.child_inside.Goals as goal

pub returns-clause-leads : goal.returns-clause-leads
returns-clause-leads g c =
    let e = c.child_inside.ensures in
    goes_inside c.args.key.now c.args.chain.now.records c.keeps_rules.ensures.fitted c.child_inside.result e.child e.ends e.index
