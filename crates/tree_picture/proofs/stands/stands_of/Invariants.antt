use Rattle.std.proofs.Common.{◌≡◌}
use Rattle.tree_picture.specs.Stands.{stands_below}
use Rattle.tree_picture.proofs.stands.stands_of.Given as goal

abbrev pub invariant-loop-number : goal.invariant-loop-number
invariant-loop-number l = l.stands.items ≡ stands_below l.core.entries l.core.demand.wanted l.number
