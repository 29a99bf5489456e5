-- What a step found, in words: behind a read what stood there, and behind the taking of a number whether it was free.
use Rattle.std.specs.Prelude.{ℕ, List, [], ◌++◌, ◌==◌, Bool, true, false, Option, None, Some, codes, decimal, if◌then◌else◌}
use Rattle.bw_model.specs.declared.step.Answer.{Answer}
use Rattle.bw_model.specs.declared.step.Answer.TheVariants.{Number, Content, Whether}
use Rattle.bw_model.specs.declared.step.Step.{Step as StepOf}
use Rattle.bw_model.specs.declared.step.Step.TheVariants.{Slot, Row, Epoch, Announce, PidBits, RowBits, TakePid, TakeRow, Retire}
use Rattle.deltas.specs.declared.record.Record.{Record}
use Rattle.traces.specs.declared.trace.Entry.{Entry}
use Rattle.traces.specs.declared.trace.Entry.TheVariants.{Begin, Step}
use Rattle.tree_picture.specs.Cells.{epoch_text}
use Rattle.tree_picture.specs.RecordLines.{record_text}
use Rattle.tree_picture.specs.SlotTexts.{kind_text}
use Rattle.tree_picture.specs.Touches.{last_entry}

-- what a slot has
abbrev pub slot_found : ℕ → ℕ → List ℕ
slot_found slot content = if content == 0 then codes ": nothing" else kind_text slot ++ decimal content

-- a word of bits
abbrev pub bits_found : ℕ → List ℕ
bits_found bits = if bits == 0 then codes ": none is free" else codes ": some are free"

abbrev pub taking_found : Bool → List ℕ
taking_found true = codes ": it was free"
taking_found false = codes ": another actor was faster"

abbrev pub retiring_found : Bool → List ℕ
retiring_found true = codes ": the next one begins"
retiring_found false = codes ": another actor was faster"

abbrev pub answer_text : StepOf Record → Answer Record → List ℕ
answer_text (Slot slot) (Number content) = slot_found slot content
answer_text (Row row) (Content content) = codes ": " ++ record_text content
answer_text Epoch (Number epoch) = codes ": " ++ decimal epoch
answer_text (Announce actor) (Number epoch) = epoch_text epoch
answer_text (PidBits word) (Number bits) = bits_found bits
answer_text (RowBits word) (Number bits) = bits_found bits
answer_text (TakePid pid) (Whether free) = taking_found free
answer_text (TakeRow row) (Whether free) = taking_found free
answer_text (Retire epoch) (Whether went) = retiring_found went
answer_text _ _ = []

abbrev pub found_at : Option Entry → List ℕ
found_at None = []
found_at (Some (Begin actor command)) = []
found_at (Some (Step actor step answer reply)) = answer_text step answer

-- what the last step found
abbrev pub found_text : List Entry → List ℕ
found_text entries = found_at (last_entry entries)
