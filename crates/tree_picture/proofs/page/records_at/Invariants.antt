use Rattle.std.proofs.Common.{◌≡◌, List, take}
use Rattle.deltas.specs.declared.record.Record.{Record}
use Rattle.core_memory.specs.Tables.{memory_in}
use Rattle.listing.specs.Listed.{StandsAt}
use Rattle.tree_picture.proofs.page.records_at.Given as goal

abbrev pub invariant-loop-place : goal.invariant-loop-place
invariant-loop-place g l = (chain : List Record) → StandsAt (memory_in l.table) l.pid chain → l.records.items ≡ take l.place chain
