-- Which words spell a record by the first form of rows.
use Rattle.std.specs.Prelude.{◌≡◌, ◌≤◌, ℕ, List, length, IsTrue}
use Rattle.bw_model.specs.Bytes.{IsShort}
use Rattle.deltas.specs.declared.record.Record.{Record}
use Rattle.deltas.specs.Spellable.{IsSpellable}
use Rattle.record_slots.specs.Layout.{first_form}
use Rattle.record_slots.specs.Small.{is_small}
use Rattle.record_slots.specs.Spelling.{words_of_in}
use Rattle.record_slots.specs.Spells.{HasTexts}

-- how many bytes a key or a value had at most
abbrev pub first_longest : ℕ
first_longest = 32

abbrev pub IsFew : List ℕ → Type 0
IsFew bytes = length bytes ≤ first_longest

-- A key or a value that had room in the first form.
pub record IsNarrow (bytes : List ℕ) : Type 0 where
  pub short : IsShort bytes
  pub few : IsFew bytes

-- The words spell the record by the first form.
pub record IsFirstSpelling (content : Record) (words : List ℕ) : Type 0 where
  pub spellable : IsSpellable content
  pub narrow : HasTexts IsNarrow content
  pub small : IsTrue (is_small content)
  pub are : words_of_in first_form content ≡ words
