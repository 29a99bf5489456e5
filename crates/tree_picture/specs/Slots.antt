-- The mapping table: the slots that aren't 0.
use Rattle.std.specs.Prelude.{ℕ, zero, suc, List, [], ◌∷◌, ◌++◌, ◌==◌, if◌then◌else◌}
use Rattle.deltas.specs.Memory.{Memory}
use Rattle.tree_picture.specs.declared.slots.Slot.{Slot}

-- the slot with what it has, unless that is 0
abbrev pub slot_in : Memory → ℕ → List Slot
slot_in memory number = if memory.slots number == 0 then [] else record { number = number; content = memory.slots number } ∷ []

-- those below a number, in their order
abbrev pub slots_below : Memory → ℕ → List Slot
slots_below memory zero = []
slots_below memory (suc number) = slots_below memory number ++ slot_in memory number
