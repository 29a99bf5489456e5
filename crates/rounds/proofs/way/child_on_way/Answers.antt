use Rattle.rounds.proofs.Words.{true, false, None, IsTrue, content_in, low_in}
use Rattle.base_page.specs.Places.{IsGreatestChild}
use Rattle.traces.proofs.FittedLaws.{has_child}
use Rattle.round_model.specs.Ways.{passes}
use Rattle.round_model.proofs.WayLaws.{goes_down}
use Rattle.rounds.proofs.way.child_on_way.Goals as goal

pub returns-then-below-clause-leads : goal.returns-then-below-clause-leads
returns-then-below-clause-leads g c = rw c.if-below.true (goes_down (passes true c.args.key.now) c.args.chain.now.records c.in-Some.child c.keeps_rules.ensures.fitted c.in-Some.ensures.child)

pub returns-clause-leads : goal.returns-clause-leads
returns-clause-leads g c = rw c.if-below.false (goes_down (passes false c.args.key.now) c.args.chain.now.records c.in-Some-child_of.child c.keeps_rules.ensures.fitted c.in-Some-child_of.ensures.child)

pub unreachable-requires-in-None-child_of : goal.unreachable-requires-in-None-child_of
unreachable-requires-in-None-child_of g c =
    let reached : IsTrue (passes false c.args.key.now (low_in c.args.chain.now.records)) = rw c.if-below.false at c.requires.reached in
    let some = has_child c.args.chain.now.records (passes false c.args.key.now) c.keeps_rules.ensures.fitted c.requires.index reached
    (IsGreatestChild (content_in c.args.chain.now.records) (passes false c.args.key.now)) None c.in-None-child_of.ensures.child in
    cc
