use Rattle.std.proofs.Common.{◌≡◌, ◌+◌, ◌++◌, length}
use Rattle.record_slots.specs.Spelling.{text_words}
use Rattle.record_slots.proofs.write.push_text.Given as goal

abbrev pub invariant-loop-place : goal.invariant-loop-place
invariant-loop-place l = record {
  written : l.row ≡ l.initial.row ++ text_words l.place l.bytes;
  counts : length l.row ≡ length l.initial.row + l.place;
}
