use Rattle.std.proofs.Common.{◌≡◌, length}
use Rattle.core_memory.specs.Tables.{memory_in}
use Rattle.tree_picture.proofs.Descents.{HasDown}
use Rattle.tree_picture.proofs.scene.levels_of.Given as goal

abbrev pub invariant-loop : goal.invariant-loop
invariant-loop g l = record {
  down : HasDown l.limits (memory_in l.table) l.levels.items l.counter l.pid;
  counted : length l.levels.items ≡ l.counter;
}
