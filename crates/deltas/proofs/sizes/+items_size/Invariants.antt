use Rattle.std.proofs.Common.{length}
use Rattle.deltas.proofs.sizes.+items_size.Given as goal

abbrev pub decreases-items_size : goal.decreases-items_size
decreases-items_size l = length l.items.now
