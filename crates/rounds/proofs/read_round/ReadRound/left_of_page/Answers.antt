use Rattle.rounds.proofs.Words.{rules, ◌≡◌, Some, low_in, above_of}
use Rattle.rounds.proofs.LegTurns.{leads_left}
use Rattle.rounds.proofs.read_round.ReadRound.left_of_page.Goals as goal

pub returns-clause-leads : goal.returns-clause-leads
returns-clause-leads g c =
    let old = c.args.self.now in
    let above : above_of old.round.leg ≡ Some old.met = search rules in
    let low : c.of-low.result ≡ low_in old.page.chain = search rules in
    let chain : c.chain-above.result.now.records ≡ old.met.chain = search rules in
    leads_left old.page old.met c.child_below.result (rw chain at c.keeps_rules.ensures.fitted) (rw (chain, low) at c.child_below.ensures.child) old.round.leg above
