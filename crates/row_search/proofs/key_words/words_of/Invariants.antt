use Rattle.row_search.proofs.Words.{◌≡◌, length, take, text_size, text_words}
use Rattle.row_search.proofs.key_words.words_of.Given as goal

abbrev pub invariant-loop-place : goal.invariant-loop-place
invariant-loop-place l = record {
  long : length l.words ≡ text_size;
  written : take l.place l.words ≡ text_words l.place l.bytes;
}
