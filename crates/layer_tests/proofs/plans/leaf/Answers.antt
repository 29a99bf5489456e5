use Rattle.std.proofs.Common.{[], arith}
use Rattle.structure_changes.proofs.TestedLeaves.{page_chain}
use Rattle.layer_tests.proofs.plans.leaf.Goals as goal

pub returns : goal.returns
returns c =
    let is = c.loop-i.invariant in
    record { alive = is.3; stands = page_chain c.loop-i.page c.keeps_rules.ensures is.0 is.1 is.2 is.3 [] tt (omega arith) }
