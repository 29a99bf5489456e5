-- What the last step of a run did with slots, rows and the epochs of actors.
use Rattle.std.specs.Prelude.{ℕ, ◌-◌, ◌==◌, List, Bool, true, false, Option, None, Some, if◌then◌else◌, length, map, slice_get}
use Rattle.bw_model.specs.declared.step.Answer.{Answer}
use Rattle.bw_model.specs.declared.step.Answer.TheVariants.{Whether}
use Rattle.bw_model.specs.declared.step.Step.{Step as StepOf}
use Rattle.bw_model.specs.declared.step.Step.TheVariants.{Slot, Row, Announce, Place, Exchange, Enter, Leave}
use Rattle.deltas.specs.declared.record.Record.{Record}
use Rattle.traces.specs.declared.trace.Entry.{Entry}
use Rattle.traces.specs.declared.trace.Entry.TheVariants.{Begin, Step}
use Rattle.tree_picture.specs.declared.slots.Slot.{Slot as SlotOf}
use Rattle.tree_picture.specs.declared.touches.Touch.{Touch}
use Rattle.tree_picture.specs.declared.touches.Touch.TheVariants.{Untouched, Read, Changed}
use Rattle.tree_picture.specs.declared.touches.Touched.{Touched}

-- the last entry, if there is one
abbrev pub last_entry : List Entry → Option Entry
last_entry entries = slice_get entries (length entries - 1)

abbrev pub nothing_touched : Touched
nothing_touched = record { slot = None; row = None; actor = None; changes = false }

-- a slot was read, or exchanged to another row, which was linked by that; slot 0 has no row
abbrev pub slot_touched : ℕ → Touched
slot_touched slot = record { slot = Some slot; row = None; actor = None; changes = false }

abbrev pub row_linked : ℕ → ℕ → Option ℕ
row_linked slot row = if slot == 0 then None else Some row

abbrev pub slot_changed : ℕ → ℕ → Touched
slot_changed slot row = record { slot = Some slot; row = row_linked slot row; actor = None; changes = true }

-- a row was read, or a record was placed in it
abbrev pub row_touched : ℕ → Bool → Touched
row_touched row changes = record { slot = None; row = Some row; actor = None; changes = changes }

-- the epoch of an actor was read, or announced
abbrev pub actor_touched : ℕ → Bool → Touched
actor_touched actor changes = record { slot = None; row = None; actor = Some actor; changes = changes }

-- An exchange that was lost has found another row in the slot, and changed nothing.
abbrev pub touched_by : ℕ → StepOf Record → Answer Record → Touched
touched_by actor (Slot slot) answer = slot_touched slot
touched_by actor (Exchange slot old new) (Whether true) = slot_changed slot new
touched_by actor (Exchange slot old new) (Whether false) = slot_touched slot
touched_by actor (Row row) answer = row_touched row false
touched_by actor (Place row content) answer = row_touched row true
touched_by actor (Announce other) answer = actor_touched other false
touched_by actor (Enter epoch) answer = actor_touched actor true
touched_by actor Leave answer = actor_touched actor true
touched_by actor _ answer = nothing_touched

abbrev pub touched_at : Option Entry → Touched
touched_at None = nothing_touched
touched_at (Some (Begin actor command)) = nothing_touched
touched_at (Some (Step actor step answer reply)) = touched_by actor step answer

abbrev pub touched_in : List Entry → Touched
touched_in entries = touched_at (last_entry entries)

-- whether it is this number
abbrev pub is_number : Option ℕ → ℕ → Bool
is_number None number = false
is_number (Some one) number = one == number

abbrev pub touch_if : Bool → Bool → Touch
touch_if false changes = Untouched
touch_if true false = Read
touch_if true true = Changed

-- what it did with a slot
abbrev pub slot_touch : Touched → ℕ → Touch
slot_touch touched number = touch_if (is_number touched.slot number) touched.changes

-- a slot as it is drawn
pub record TouchedSlot : Type 0 where
  pub slot : SlotOf
  pub touch : Touch

abbrev pub with_touch : Touched → SlotOf → TouchedSlot
with_touch touched slot = record { slot = slot; touch = slot_touch touched slot.number }

abbrev pub touched_slots : Touched → List SlotOf → List TouchedSlot
touched_slots touched slots = map (with_touch touched) slots
