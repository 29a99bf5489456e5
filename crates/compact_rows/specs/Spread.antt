-- Which words of a compact row an item's code leads to.
use Rattle.std.specs.Prelude.{◌≡◌, ◌+◌, ◌<◌, ◌≤◌, ℕ, List, length}
use Rattle.compact_rows.specs.Seen.{code_at, code_number, code_tail}
use Rattle.compact_rows.specs.Spelling.{words_for}

-- The text of an item with this code lies within the words: the rest of its key, and on a leaf its value.
pub record HoldsText (words : List ℕ) (level code : ℕ) : Type 0 where
  pub key : code_at code + code_tail code ≤ length words
  pub value : level ≡ 0 → code_at code + code_tail code + words_for (code_number code) ≤ length words
