use Rattle.std.proofs.Common.{lit≤}
use Rattle.std.specs.List.Sorted.{IsStrictlySortedBy}
use Rattle.base_page.proofs.items.Items.new.Goals as goal

pub invariant_of-result : goal.invariant_of-result
unfolding IsStrictlySortedBy
invariant_of-result c = rw c.new.ensures record { few = lit≤ tt; ascending = tt }
