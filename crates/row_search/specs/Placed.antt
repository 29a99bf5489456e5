-- A record that was read in a row, and stands there.
use Rattle.std.specs.Prelude.{ℕ, List}
use Rattle.deltas.specs.declared.record.Record.{Record}
use Rattle.record_slots.specs.Spelling.{words_of}

pub record PlacedRecord : Type 0 where
  pub row : ℕ
  pub content : Record

-- the words of the record
abbrev pub row_words_of : PlacedRecord → List ℕ
row_words_of placed = words_of placed.content
