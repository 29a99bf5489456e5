use Rattle.std.proofs.Common.{◌<◌, length, refl}
use Rattle.core_memory.proofs.Tables.{with_pids, with_record, with_rows}
use Rattle.core_memory.proofs.table.CoreTable.take.Goals as goal

pub returns-in-TakePid-clause-memory : goal.returns-in-TakePid-clause-memory
returns-in-TakePid-clause-memory g c = rw (c.in-TakePid.is, ← c.self.view_is) (with_pids c.self.inside.limits _ _ _ _ _ _ _ c.clear_bit.ensures.taken)

pub returns-in-TakeRow-clause-memory : goal.returns-in-TakeRow-clause-memory
returns-in-TakeRow-clause-memory g c = rw (c.in-TakeRow.is, ← c.self.view_is) (with_rows c.self.inside.limits _ _ _ _ _ _ _ c.clear_bit-in-TakeRow.ensures.taken)

pub returns-in-ReusePids-clause-memory : goal.returns-in-ReusePids-clause-memory
returns-in-ReusePids-clause-memory g c = rw (c.in-ReusePids.is, ← c.self.view_is) (with_pids c.self.inside.limits _ _ _ _ _ _ _ c.set_bits.ensures.freed)

pub returns-in-ReuseRows-clause-memory : goal.returns-in-ReuseRows-clause-memory
returns-in-ReuseRows-clause-memory g c = rw (c.in-ReuseRows.is, ← c.self.view_is) (with_rows c.self.inside.limits _ _ _ _ _ _ _ c.set_bits-in-ReuseRows.ensures.freed)

pub returns-in-Place-clause-memory : goal.returns-in-Place-clause-memory
returns-in-Place-clause-memory g c =
    let within : c.in-Place.row < length c.self.inside.rows.items = rw c.self.invariant.rows (rw (c.in-Place.is, ← c.self.view_is) at c.requires) in
    rw (c.in-Place.is, ← c.self.view_is, c.place.ensures) (with_record c.self.inside.limits _ _ _ _ _ _ _ _ _ refl within)
