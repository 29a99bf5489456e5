-- The words for a slot of the mapping table.
use Rattle.std.specs.Prelude.{ℕ, List, ◌++◌, ◌==◌, codes, decimal, if◌then◌else◌}
use Rattle.tree_picture.specs.declared.slots.Slot.{Slot}

-- Slot 0 has the root's PID, every other one a row.
abbrev pub kind_text : ℕ → List ℕ
kind_text number = if number == 0 then codes ": PID " else codes ": row "

abbrev pub slot_text : Slot → List ℕ
slot_text slot = codes "slot " ++ decimal slot.number ++ (kind_text slot.number ++ decimal slot.content)
