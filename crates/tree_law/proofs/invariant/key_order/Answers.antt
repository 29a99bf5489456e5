use Rattle.tree_law.proofs.shape.KeyOrder.{below_upto, upto_below, not_below, upto_both, empty_lowest}
use Rattle.tree_law.proofs.invariant.key_order.Goals as goal

pub returns : goal.returns
returns c = record { below_upto = below_upto; upto_below = upto_below; not_below = not_below; upto_both = upto_both; empty_lowest = empty_lowest }
