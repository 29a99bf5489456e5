use Rattle.core_memory.specs.Tables.{memory_in}
use Rattle.tree_picture.proofs.Sides.{HasFront}
use Rattle.tree_picture.proofs.level.level_from.Given as goal

abbrev pub invariant-loop : goal.invariant-loop
invariant-loop g l = HasFront l.limits (memory_in l.table) l.first l.pages.items l.counter l.pid
