use Rattle.std.proofs.Common.{◌∙◌, sym, arith}
use Rattle.bw_model.proofs.NextKeyLaws.{without_last, with_lower_last}
use Rattle.bw_model.proofs.key.Key.before.Goals as goal

pub returns-then-last-eq0 : goal.returns-then-last-eq0
returns-then-last-eq0 c =
    let key = sym c.as_slice.ensures.bytes ∙ c.in_ok-last.ensures.cases.0 in
    without_last c.args.self.now c.in_ok-last.front.now c.copy_from_slice.new.self _ c.first_of.result c.in_ok-last.last.now key
    c.if-last-eq0.true c.copy_from_slice.ensures.after c.first_of.ensures

pub returns : goal.returns
returns c =
    let long = c.in_ok-last.ensures.cases.1 in
    let fits = c.as_slice.ensures.fits in
    let key = sym c.as_slice.ensures.bytes ∙ c.in_ok-last.ensures.cases.0 in
    with_lower_last c.args.self.now c.in_ok-last.front.now c.copy_from_slice.new.self c.first_of-2.result c.in_ok-last.last.now key
    c.if-last-eq0.false (omega (arith, long, fits)) c.copy_from_slice.ensures.after c.first_of-2.ensures
