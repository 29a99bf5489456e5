use Rattle.rounds.proofs.Words.{◌<◌, sym, ◌∙◌, arith, level_in}
use Rattle.round_model.specs.WriteRounds.{ends_at}
use Rattle.rounds.proofs.Turning.{below_left, level_of}
use Rattle.rounds.proofs.write_round.WriteRound.go_on.Goals as goal

pub returns-then-level-floor-clause-treats : goal.returns-then-level-floor-clause-treats
returns-then-level-floor-clause-treats g c =
    let old = c.args.self.now in
    let level = level_of c.level-level.ensures c.chain-2.ensures c.page-2.ensures in
    let below : level_in old.page.chain < ends_at old.round.goal old.round.floor = rw (← level, ← c.floor-floor.ensures) c.if-level-floor.true in
    let is = below_left old.round.goal old.round.floor (level_in old.page.chain) c.requires.here.seeks below in
    record { pid = is.0; goal = is.1; here = c.requires.here; fine = c.requires.fine; below = is.2 }

pub end-requires-clause-level : goal.end-requires-clause-level
end-requires-clause-level g c =
    let old = c.args.self.now in
    let level = level_of c.level-level.ensures c.chain-2.ensures c.page-2.ensures in
    sym level ∙ c.if-level-floor-2.true ∙ c.floor-floor.ensures

pub tend-requires-clause-index : goal.tend-requires-clause-index
tend-requires-clause-index g c =
    let old = c.args.self.now in
    let level = level_of c.level-level.ensures c.chain-2.ensures c.page-2.ensures in
    let above : c.floor-floor.result < c.level-level.result = omega arith in
    rw (← level, ← c.floor-floor.ensures) above

pub go_below-requires-clause-index : goal.go_below-requires-clause-index
go_below-requires-clause-index g c =
    let old = c.args.self.now in
    let level = level_of c.level-level.ensures c.chain-2.ensures c.page-2.ensures in
    let above : c.floor-floor.result < c.level-level.result = omega arith in
    rw (← level, ← c.floor-floor.ensures) above

pub go_below-requires-clause-idle : goal.go_below-requires-clause-idle
go_below-requires-clause-idle g c = λ parent tended. let on = rw (← c.self.view_is) at tended.tends in let not = c.if-self.false in cc
