use Rattle.std.proofs.Common.{◌≡◌, ◌-◌, ◌+◌, suc, arith, length, sym, ◌∙◌}
use Rattle.filming.proofs.Placing.{place_next}
use Rattle.filming.proofs.places.place_of.Goals as goal

pub loop-back-preserved : goal.loop-back-preserved
loop-back-preserved c =
    let many = length c.args.log.now in
    let same : many - c.loop-back.back ≡ suc (many - (c.loop-back.back + 1)) = (let there = c.loop-back-test.true in omega (arith, there)) in
    c.loop-back.invariant
    ∙ place_next c.args.log.now c.args.command.now c.args.reply.now (many - c.loop-back.back) (many - (c.loop-back.back + 1)) same
    (sym c.is_told.ensures ∙ c.if-is_told.false)
