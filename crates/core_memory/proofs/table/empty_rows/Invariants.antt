use Rattle.std.proofs.Common.{◌≡◌, None, replicate}
use Rattle.core_memory.proofs.table.empty_rows.Given as goal

abbrev pub invariant-loop : goal.invariant-loop
invariant-loop g l = l.rows.items ≡ replicate l.counter None
