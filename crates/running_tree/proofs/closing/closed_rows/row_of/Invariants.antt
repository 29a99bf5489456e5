use Rattle.running_tree.proofs.Words.{◌≡◌, ◌<◌, ℕ, length, slice_index, row_size, row_at}
use Rattle.running_tree.proofs.closing.closed_rows.row_of.Given as goal

abbrev pub invariant-loop-j : goal.invariant-loop-j
invariant-loop-j g l = record {
  long : length l.words ≡ row_size;
  read : (i : ℕ) → i < l.j → slice_index l.words i ≡ slice_index l.closed.words.items (row_at l.limits l.row i);
}
