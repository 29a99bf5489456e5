use Rattle.std.proofs.Common.{◌≡◌, ◌<◌, ◌+◌, ◌-◌, ◌*◌, ◌^◌, drop}
use Rattle.record_slots.specs.Spelling.{big_endian}
use Rattle.record_slots.proofs.write.last_word.Given as goal

abbrev pub invariant-loop-place : goal.invariant-loop-place
invariant-loop-place l = record {
  whole : l.word * 256 ^ (l.from + 8 - l.place) + big_endian (l.from + 8 - l.place) (drop l.place l.bytes) ≡ big_endian 8 (drop l.from l.bytes);
  fits : l.word < 256 ^ (l.place - l.from);
}
