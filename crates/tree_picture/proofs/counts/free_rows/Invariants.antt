use Rattle.std.proofs.Common.{◌≡◌, ◌≤◌}
use Rattle.core_memory.specs.Tables.{memory_in}
use Rattle.deltas.specs.Memory.{how_many}
use Rattle.tree_picture.proofs.counts.free_rows.Given as goal

abbrev pub invariant-loop-row : goal.invariant-loop-row
invariant-loop-row g l = record {
  counted : l.count ≡ how_many (memory_in l.table).free_rows l.row;
  few : l.count ≤ l.row;
}
