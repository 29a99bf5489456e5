-- Which texts words spell, and what reading the bytes of words gives.
use Rattle.std.specs.Prelude.{◌≡◌, ◌==◌, ℕ, ◌-◌, ◌%◌, ◌^◌, List, [], ◌∷◌, ◌++◌, length, Bool, true, ◌&&◌, Option, IfSome}
use Rattle.std.specs.Int.{w64, to_be_bytes}
use Rattle.bw_model.specs.Bytes.{IsShort}
use Rattle.record_slots.specs.Layout.{text_size}
use Rattle.record_slots.specs.Spelling.{text_words, field_words, bound_words}

-- the words have the bytes of a text of that length
pub record IsText (count : ℕ) (words text : List ℕ) : Type 0 where
  pub short : IsShort text
  pub counts : length text ≡ count
  pub are : text_words text_size text ≡ words

pub record IsField (words text : List ℕ) : Type 0 where
  pub short : IsShort text
  pub are : field_words text ≡ words

pub record IsBound (words : List ℕ) (bound : Option (List ℕ)) : Type 0 where
  pub short : IfSome bound IsShort
  pub are : bound_words bound ≡ words

-- the bytes of words, eight a word
abbrev pub bytes_of : List ℕ → List ℕ
bytes_of [] = []
bytes_of (word ∷ words) = to_be_bytes w64 word ++ bytes_of words

-- There is nothing behind the first bytes.
abbrev pub ends_there : ℕ → List ℕ → Bool
ends_there count [] = true
ends_there count (word ∷ words) = (word % 256 ^ (8 - count) == 0) && ends_there (count - 8) words
