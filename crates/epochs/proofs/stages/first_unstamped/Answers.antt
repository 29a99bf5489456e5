use Rattle.std.proofs.Common.{◌<◌, ◌-◌, length, sym, ◌∙◌, arith}
use Rattle.epochs.proofs.Restaged.{stamped_before}
use Rattle.epochs.proofs.stages.first_unstamped.Goals as goal

pub returns-then-not-is_unstamped-clause-stamped : goal.returns-then-not-is_unstamped-clause-stamped
returns-then-not-is_unstamped-clause-stamped c =
    let lt : c.loop-place.place - 1 < length c.args.entries.now = omega (arith, c.loop-place-test.true, c.loop-place.auto.place) in
    stamped_before c.args.entries.now c.requires (c.loop-place.place - 1) _ lt (sym c.is_unstamped.ensures ∙ c.if-not-is_unstamped.true)
