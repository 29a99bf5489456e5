use Rattle.compact_rows.proofs.Words.{◌≡◌, ◌+◌, ◌*◌, ◌++◌, ◌∷◌, [], ℕ, List, drop, ap, ◌∙◌, sym, suc, arith, append_assoc, length, length-append, length-drop, drop-drop, big_endian}
use Rattle.compact_rows.proofs.Words.{text_words}
use Rattle.record_slots.proofs.TextLaws.{text_grows}
use Rattle.compact_rows.proofs.Texts.{packed_long}
use Rattle.compact_rows.proofs.write.push_words.Goals as goal

pub loop-place-preserved : goal.loop-place-preserved
loop-place-preserved c =
    let bytes = c.args.bytes.now in
    let from = c.args.from in
    let rest : List ℕ = drop from bytes in
    let before = c.args.row.now in
    let place = c.loop-place.place in
    let next : suc place ≡ place + 1 = omega arith in
    let word : c.word_at.result ≡ big_endian 8 (drop (8 * place) rest) = c.word_at.ensures ∙ ap (big_endian 8) (sym (drop-drop (8 * place) from bytes)) in
    record {
      written =
          c.push.ensures ∙ (λ i. c.loop-place.invariant.written i ++ word i ∷ [])
          ∙ append_assoc before (text_words place rest) (big_endian 8 (drop (8 * place) rest) ∷ [])
          ∙ ap (λ ws. before ++ ws) (sym (text_grows place rest) ∙ ap (λ n. text_words n rest) next);
      counts = ap length c.push.ensures ∙ length-append c.loop-place.row (c.word_at.result ∷ []) ∙ (let n = c.loop-place.invariant.counts in omega arith);
    }

pub push-requires : goal.push-requires
push-requires c =
    let long = packed_long (drop c.args.from c.args.bytes.now) in
    let short = length-drop c.args.from c.args.bytes.now in
    let room = c.requires.room in
    let count = c.words_for-count.ensures.words in
    let sub = c.saturating_sub.ensures in
    let counts = c.loop-place.invariant.counts in
    let test = c.loop-place-test.true in
    omega arith
