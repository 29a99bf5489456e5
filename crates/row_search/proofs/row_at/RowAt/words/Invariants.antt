use Rattle.std.proofs.Common.{◌≡◌, ◌≤◌, ◌<◌, ◌-◌, ℕ, get_or, length}
use Rattle.row_search.proofs.Words.{row_size, words_of}
use Rattle.row_search.proofs.row_at.RowAt.words.Given as goal

abbrev pub invariant-loop-place : goal.invariant-loop-place
invariant-loop-place g l = record {
  within : l.place ≤ l.used;
  room : l.used ≤ row_size;
  same : l.pass ≡ l.initial.pass;
  long : length l.words ≡ row_size;
  read : (j : ℕ) → j < l.place → get_or l.words j 0 ≡ get_or (words_of l.self.content) j 0;
  rest : (j : ℕ) → l.place ≤ j → get_or l.words j 0 ≡ 0;
}

abbrev pub decreases-loop-place : goal.decreases-loop-place
decreases-loop-place g l = l.used - l.place
