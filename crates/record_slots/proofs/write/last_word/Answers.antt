use Rattle.std.proofs.Common.{◌≡◌, ◌<◌, ◌≤◌, ◌+◌, ◌-◌, ◌*◌, ◌^◌, ℕ, suc, List, get_or, drop, subst, ◌∙◌, arith}
use Rattle.record_slots.specs.Spelling.{big_endian}
use Rattle.record_slots.proofs.WordLaws.{packed_more, word_room, byte_more}
use Rattle.record_slots.proofs.write.last_word.Goals as goal

pub overflow_mul-word : goal.overflow_mul-word
overflow_mul-word c = let room = word_room c.loop-place.word (c.loop-place.place - c.args.from) (omega (arith, c.loop-place-test.true)) c.loop-place.invariant.fits in omega arith

pub overflow_add-word : goal.overflow_add-word
overflow_add-word c =
    let room = word_room c.loop-place.word (c.loop-place.place - c.args.from) (omega (arith, c.loop-place-test.true)) c.loop-place.invariant.fits in
    let small : get_or c.args.bytes.now c.loop-place.place 0 < 256 = omega (arith, c.type_inv.bytes c.loop-place.place) in
    let is : c.from.result ≡ get_or c.args.bytes.now c.loop-place.place 0 = c.from.ensures ∙ c.byte_at-byte.ensures in
    omega arith

one_more : (word byte from place whole : ℕ) (bytes : List ℕ) → from ≤ place → place < from + 8 → byte ≡ get_or bytes place 0
    → word * 256 ^ (from + 8 - place) + big_endian (from + 8 - place) (drop place bytes) ≡ whole
    → (word * 256 + byte) * 256 ^ (from + 8 - (place + 1)) + big_endian (from + 8 - (place + 1)) (drop (place + 1) bytes) ≡ whole
one_more word byte from place whole bytes low high is before =
    let n : ℕ = from + 8 - (place + 1) in
    let left : from + 8 - place ≡ suc n = omega arith in
    let next : suc place ≡ place + 1 = omega arith in
    let h : word * 256 ^ suc n + big_endian (suc n) (drop place bytes) ≡ whole = subst (λ k. word * 256 ^ k + big_endian k (drop place bytes) ≡ whole) left before in
    subst (λ k. (word * 256 + byte) * 256 ^ n + big_endian n (drop k bytes) ≡ whole) next (packed_more word byte n place whole bytes is h)

pub loop-place-preserved : goal.loop-place-preserved
loop-place-preserved c =
    let small : get_or c.args.bytes.now c.loop-place.place 0 < 256 = omega (arith, c.type_inv.bytes c.loop-place.place) in
    let is : c.from.result ≡ get_or c.args.bytes.now c.loop-place.place 0 = c.from.ensures ∙ c.byte_at-byte.ensures in
    let low : c.args.from ≤ c.loop-place.place = c.loop-place.auto.place in
    let places : suc (c.loop-place.place - c.args.from) ≡ c.loop-place.place + 1 - c.args.from = omega arith in
    record {
      whole =
          one_more c.loop-place.word c.from.result c.args.from c.loop-place.place (big_endian 8 (drop c.args.from c.args.bytes.now)) c.args.bytes.now low
          c.loop-place-test.true is c.loop-place.invariant.whole;
      fits =
          subst (λ k. c.loop-place.word * 256 + c.from.result < 256 ^ k) places
          (byte_more c.loop-place.word c.from.result (c.loop-place.place - c.args.from) (omega arith) c.loop-place.invariant.fits);
    }
