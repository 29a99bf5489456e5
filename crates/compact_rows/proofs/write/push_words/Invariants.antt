use Rattle.compact_rows.proofs.Words.{◌≡◌, ◌+◌, ◌++◌, drop, length, text_words}
use Rattle.compact_rows.proofs.write.push_words.Given as goal

abbrev pub invariant-loop-place : goal.invariant-loop-place
invariant-loop-place l = record {
  written : l.row ≡ l.initial.row ++ text_words l.place (drop l.from l.bytes);
  counts : length l.row ≡ length l.initial.row + l.place;
}
