use Rattle.std.proofs.Common.{◌≡◌, ◌<◌, ◌≤◌, ◌+◌, ◌-◌, ℕ, get_or}
use Rattle.row_search.proofs.Words.{text_size}
use Rattle.row_search.specs.TextsOf.{length_at}
use Rattle.row_search.specs.Placed.{row_words_of}
use Rattle.row_search.proofs.key_words.KeyWords.compare_words.Given as goal

abbrev pub invariant-loop-at : goal.invariant-loop-at
invariant-loop-at g l = record {
  within : l.at ≤ text_size;
  same : l.pass ≡ l.initial.pass;
  alike : (j : ℕ) → j < l.at → get_or (row_words_of l.row) (length_at l.text + 1 + j) 0 ≡ get_or l.self-inside.words j 0;
}

abbrev pub decreases-loop-at : goal.decreases-loop-at
decreases-loop-at g l = l.used - l.at
