use Rattle.std.proofs.Common.{◌≡◌, ◌≤◌}
use Rattle.core_memory.specs.Tables.{memory_in}
use Rattle.deltas.specs.Memory.{how_many}
use Rattle.tree_picture.proofs.counts.free_pids.Given as goal

abbrev pub invariant-loop-pid : goal.invariant-loop-pid
invariant-loop-pid g l = record {
  counted : l.count ≡ how_many (memory_in l.table).free_pids l.pid;
  few : l.count ≤ l.pid;
}
