use Rattle.std.proofs.Common.{◌≡◌, ◌*◌, ◌++◌, drop, length, take}
use Rattle.std.specs.Prelude.{◌&&◌}
use Rattle.record_slots.specs.Texts.{bytes_of, ends_there}
use Rattle.record_slots.proofs.texts.read_bytes.Given as goal

abbrev pub invariant-loop-place : goal.invariant-loop-place
invariant-loop-place l = record {
  bytes : take (8 * l.place) l.bytes ++ bytes_of (drop l.place l.words) ≡ bytes_of l.words;
  long : length l.bytes ≡ 64;
  ends : l.ends && ends_there l.left (drop l.place l.words) ≡ ends_there l.count l.words;
}
