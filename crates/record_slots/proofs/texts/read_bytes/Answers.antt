use Rattle.std.proofs.Common.{◌≡◌, ◌∙◌, ◌++◌, ◌+◌, ◌-◌, ◌*◌, ◌<◌, ◌≤◌, ℕ, List, [], length, take, ap, drop, refl, sym, arith}
use Rattle.std.specs.Prelude.{◌&&◌, Bool, true, false, slice_index_or}
use Rattle.std.specs.Int.{w64, to_be_bytes}
use Rattle.std.proofs.Math.Bool.{and_assoc}
use Rattle.std.proofs.lemmas.List.{append-nil, append_assoc, at_drop_more, drop_all, length-take-le, take_all}
use Rattle.record_slots.proofs.TextLaws.{two_parts}
use Rattle.record_slots.specs.Texts.{bytes_of, ends_there}
use Rattle.record_slots.proofs.texts.read_bytes.Goals as goal

pub loop-place-init : goal.loop-place-init
loop-place-init c = record { bytes = refl; long = c.told-bytes; ends = refl }

pub loop-place-preserved : goal.loop-place-preserved
loop-place-preserved c =
    let before = c.loop-place.invariant in
    let words = c.args.words.now in
    let place = c.loop-place.place in
    let front : List ℕ = take (8 * place) c.loop-place.bytes in
    let word : List ℕ = to_be_bytes w64 (slice_index_or words place 0) in
    let behind : List ℕ = drop (8 * place + 8) c.loop-place.bytes in
    let rest = drop (place + 1) words in
    let lt : place < length words = omega (arith, c.loop-place-test.true, c.requires.words) in
    let bytes = at_drop_more bytes_of words place 0 lt in
    let ends = at_drop_more (ends_there c.loop-place.left) words place 0 lt in
    let counts : length front ≡ 8 * place = length-take-le (8 * place) c.loop-place.bytes (let l = before.long in omega (arith, l, c.loop-place-test.true)) in
    let taken : take (8 * (place + 1)) c.write_word.new.bytes ≡ front ++ word =
    ap (take (8 * (place + 1))) c.write_word.ensures ∙ two_parts (8 * (place + 1)) front word behind (omega (arith, counts)) in
    record {
      bytes = ap (λ z. z ++ bytes_of rest) taken ∙ append_assoc front word (bytes_of rest) ∙ ap (λ z. front ++ z) (sym bytes) ∙ before.bytes;
      long = c.write_word.array_long;
      ends =
          ap (λ z. (c.loop-place.ends && c.ends_after-ends.result) && ends_there z rest) c.saturating_sub-left.ensures
          ∙ and_assoc c.loop-place.ends c.ends_after-ends.result (ends_there (c.loop-place.left - 8) rest)
          ∙ ap (λ z. c.loop-place.ends && (z && ends_there (c.loop-place.left - 8) rest)) c.ends_after-ends.ensures ∙ ap (λ z. c.loop-place.ends && z) (sym ends) ∙ before.ends;
    }

-- nothing is left behind the last word
none_left : (place : ℕ) (words : List ℕ) → 8 ≤ place → length words ≡ 8 → drop place words ≡ []
none_left place words h long = drop_all place words (omega (arith, h, long))

pub returns-clause-bytes : goal.returns-clause-bytes
returns-clause-bytes c =
    let is = c.loop-place.invariant in
    let all = take_all (8 * c.loop-place.place) c.loop-place.bytes (let l = is.long in omega (arith, l, c.loop-place-test.false)) in
    sym (append-nil c.loop-place.bytes) ∙ (λ i. sym all i ++ bytes_of (sym (none_left c.loop-place.place c.args.words.now c.loop-place-test.false c.requires.words) i)) ∙ is.bytes

and_true : (b : Bool) → b && true ≡ b
and_true true = refl
and_true false = refl

pub returns-clause-rest : goal.returns-clause-rest
returns-clause-rest c =
    sym (and_true c.loop-place.ends)
    ∙ ap (λ ws. c.loop-place.ends && ends_there c.loop-place.left ws) (sym (none_left c.loop-place.place c.args.words.now c.loop-place-test.false c.requires.words))
    ∙ c.loop-place.invariant.ends
