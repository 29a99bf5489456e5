-- The word with which a row begins in which a record stands, whatever form the row has.
use Rattle.std.specs.Prelude.{◌≡◌, ◌≢◌, ◌/◌, ◌%◌, ℕ, slice_index}
use Rattle.deltas.specs.declared.record.Record.{Record}
use Rattle.record_slots.specs.Layout.{form_unit, part_limit, this_form}
use Rattle.record_slots.specs.Spelling.{words_of}
use Rattle.record_slots.specs.Spells.{HasSpelling}

-- The unit of the row under it, in the first word of a row that has not the form of the spelling.
abbrev pub next_unit : ℕ
next_unit = 4294967296

-- Words can spell the record, and this word has the kind, the level and the count of items as its spelling has them. In a row of another
-- form it has the row under the record, too.
pub record Begins (first : ℕ) (content : Record) : Type 0 where
  pub spelt : HasSpelling content
  pub header : first % form_unit ≡ slice_index (words_of content) 0 % form_unit
  pub next : first / form_unit % part_limit ≢ this_form.number → first / next_unit ≡ slice_index (words_of content) 1
