-- The memory as the law reads it: the root apart from the slots of pages, and a slot that holds 0 as none.
use Rattle.std.specs.Prelude.{ℕ, zero, suc, Option, None, Some, Bool}
use Rattle.deltas.specs.declared.record.Record.{Record}
use Rattle.deltas.specs.Memory.{Memory}

pub record Shared : Type 0 where
  pub root : ℕ
  pub slots : ℕ → Option ℕ
  pub rows : ℕ → Option Record
  pub free : ℕ → Bool
  pub free_pages : ℕ → Bool

abbrev pub row_in : ℕ → Option ℕ
row_in zero = None
row_in (suc row) = Some (suc row)

-- slot 0 is no page's
abbrev pub slot_in : (ℕ → ℕ) → ℕ → Option ℕ
slot_in slots zero = None
slot_in slots (suc page) = row_in (slots (suc page))

abbrev pub shared_part : Memory → Shared
shared_part memory = record { root = memory.slots 0; slots = slot_in memory.slots; rows = memory.rows; free = memory.free_rows; free_pages = memory.free_pids }
