use Rattle.std.proofs.Common.{◌≡◌}
use Rattle.core_memory.specs.Tables.{memory_in}
use Rattle.tree_picture.specs.Slots.{slots_below}
use Rattle.tree_picture.proofs.slots.slots_of.Given as goal

abbrev pub invariant-loop-pid : goal.invariant-loop-pid
invariant-loop-pid g l = l.slots.items ≡ slots_below (memory_in l.table) l.pid
