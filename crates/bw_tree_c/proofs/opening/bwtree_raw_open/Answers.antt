use Rattle.std.proofs.Common.{subst, sym}
use Rattle.bw_tree_c.specs.Opened.{HasOpened}
use Rattle.bw_tree_c.proofs.opening.bwtree_raw_open.Goals as goal

pub returns-clause-ok : goal.returns-clause-ok
returns-clause-ok c ok = subst (HasOpened c.args.limits.now) (sym c.of.ensures) (c.in-Some.limits, c.in-Some.ensures, c.in-Some-shared_of.ensures.opened)
