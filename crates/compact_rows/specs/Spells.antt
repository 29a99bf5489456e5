-- Which compact words spell a record.
use Rattle.std.specs.Prelude.{◌≡◌, ◌≤◌, ℕ, List, length}
use Rattle.deltas.specs.declared.record.Record.{Record}
use Rattle.deltas.specs.Spellable.{IsSpellable}
use Rattle.record_slots.specs.Spells.{HasShortTexts}
use Rattle.compact_rows.specs.Layout.{most_words}
use Rattle.compact_rows.specs.Spelling.{compact_words}

-- The words are the compact spelling of the record, and a row has room for them.
pub record IsCompact (content : Record) (words : List ℕ) : Type 0 where
  pub spellable : IsSpellable content
  pub short : HasShortTexts content
  pub room : length words ≤ most_words
  pub are : compact_words content ≡ words
