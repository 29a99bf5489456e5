use Rattle.std.proofs.Common.{arith}
use Rattle.tree_words.proofs.RowWidths.{rows_few}
use Rattle.tree_words.proofs.places.Layout.slot.Goals as goal

pub overflow_add-result : goal.overflow_add-result
overflow_add-result c =
    let limits = c.self.inside.limits in
    let few = rows_few limits limits.rows in
    let most = limits.allowed.few_rows in
    let at = c.self.invariant.slots in
    omega (arith, few, most, at, c.ranges.pid.fits)
