use Rattle.std.proofs.Common.{◌≡◌, ◌+◌, ◌++◌, ◌∷◌, [], suc, set, take, ap, ◌∙◌, sym, arith, length-set}
use Rattle.row_search.proofs.Words.{take_all, text_size, text_words}
use Rattle.std.proofs.Math.Seq.{take-suc-set}
use Rattle.record_slots.proofs.TextLaws.{text_grows}
use Rattle.row_search.proofs.key_words.words_of.Goals as goal

pub loop-place-preserved : goal.loop-place-preserved
loop-place-preserved c =
    let bytes = c.args.bytes.now in
    let place = c.loop-place.place in
    let words = c.loop-place.words in
    let next : suc place ≡ place + 1 = omega arith in
    let long = c.loop-place.invariant.long in
    record {
      long = length-set words place c.word_at.result ∙ long;
      written =
          ap (λ n. take n (set words place c.word_at.result)) (sym next)
          ∙ take-suc-set words place c.word_at.result (omega (arith, long))
          ∙ (λ i. c.loop-place.invariant.written i ++ c.word_at.ensures i ∷ [])
          ∙ sym (text_grows place bytes)
          ∙ ap (λ n. text_words n bytes) next;
    }

pub returns : goal.returns
returns c = sym (take_all text_size c.loop-place.words (omega (arith, c.loop-place.invariant.long)))
    ∙ ap (λ n. take n c.loop-place.words) (let e : text_size ≡ c.loop-place.place = omega arith in e) ∙ c.loop-place.invariant.written
    ∙ ap (λ n. text_words n c.args.bytes.now) (let e : c.loop-place.place ≡ text_size = omega arith in e)
