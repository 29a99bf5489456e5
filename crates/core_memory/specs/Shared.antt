-- Records as rows and entries share them: the words of a row, without the zeros behind the last one that isn't 0.
use Rattle.std.specs.Prelude.{◌++◌, ◌-◌, ℕ, List, length, replicate}
use Rattle.bw_model.specs.declared.step.Step.{Step}
use Rattle.bw_model.specs.declared.step.Step.TheVariants.{Place}
use Rattle.deltas.specs.declared.record.Record.{Record}
use Rattle.deltas.specs.Spellable.{IsSpellable}
use Rattle.record_slots.specs.Layout.{row_size}
use Rattle.row_search.specs.Reading.{record_in}

-- the row, with zeros behind the words
abbrev pub whole : List ℕ → List ℕ
whole words = words ++ replicate (row_size - length words) 0

-- the record that the row spells
abbrev pub record_of : List ℕ → Record
record_of words = record_in (whole words)

-- A row can spell the record that the step places.
abbrev pub PlacesSpellable : Step Record → Type 0
PlacesSpellable (Place row content) = IsSpellable content
PlacesSpellable step = Unit {0}
