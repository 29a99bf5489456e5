use Rattle.std.proofs.Common.{◌≡◌, ◌≤◌, ◌+◌, ◌<◌, ◌-◌, ℕ, get_or, length}
use Rattle.row_search.proofs.Words.{text_size, words_of}
use Rattle.row_search.specs.TextsOf.{length_at}
use Rattle.row_search.proofs.row_at.RowAt.text.Given as goal

abbrev pub invariant-loop-at : goal.invariant-loop-at
invariant-loop-at g l = record {
  within : l.at ≤ l.used;
  same : l.pass ≡ l.initial.pass;
  long : length l.words ≡ text_size;
  read : (j : ℕ) → j < l.at → get_or l.words j 0 ≡ get_or (words_of l.self.content) (length_at l.text + 1 + j) 0;
  rest : (j : ℕ) → l.at ≤ j → get_or l.words j 0 ≡ 0;
}

abbrev pub decreases-loop-at : goal.decreases-loop-at
decreases-loop-at g l = l.used - l.at
