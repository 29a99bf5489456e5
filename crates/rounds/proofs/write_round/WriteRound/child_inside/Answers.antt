use Rattle.rounds.proofs.Words.{rules, ◌≡◌, false, sym, ◌∙◌}
use Rattle.round_model.specs.WriteRounds.{goes_left}
use Rattle.rounds.proofs.WayTurns.{GoesInside, writes_inside}
use Rattle.round_model.specs.Ways.{passes}
use Rattle.rounds.proofs.write_round.WriteRound.child_inside.Goals as goal

pub returns-clause-leads : goal.returns-clause-leads
returns-clause-leads g c =
    let old = c.args.self.now in
    let right : goes_left old.round.goal ≡ false = sym c.is_left.ensures ∙ c.if-is_left.false in
    let inside : GoesInside 0 (passes false old.round.key) old.page.chain c.child_inside.result = search rules in
    writes_inside old.round.goal old.round.floor old.round.key old.page.chain c.child_inside.result c.requires.seeks right inside
