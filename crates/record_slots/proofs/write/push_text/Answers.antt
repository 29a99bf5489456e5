use Rattle.std.proofs.Common.{◌≡◌, ◌+◌, ◌*◌, ◌++◌, ◌∷◌, [], drop, ap, ◌∙◌, sym, suc, arith, append_assoc, length, length-append}
use Rattle.record_slots.specs.Spelling.{big_endian, text_words}
use Rattle.record_slots.proofs.TextLaws.{text_grows}
use Rattle.record_slots.proofs.write.push_text.Goals as goal

pub loop-place-preserved : goal.loop-place-preserved
loop-place-preserved c =
    let bytes = c.args.bytes.now in
    let before = c.args.row.now in
    let place = c.loop-place.place in
    let next : suc place ≡ place + 1 = omega arith in
    record {
      written =
          c.push.ensures ∙ (λ i. c.loop-place.invariant.written i ++ c.word_at.ensures i ∷ [])
          ∙ append_assoc before (text_words place bytes) (big_endian 8 (drop (8 * place) bytes) ∷ [])
          ∙ ap (λ ws. before ++ ws) (sym (text_grows place bytes) ∙ ap (λ n. text_words n bytes) next);
      counts = ap length c.push.ensures ∙ length-append c.loop-place.row (c.word_at.result ∷ []) ∙ (let n = c.loop-place.invariant.counts in omega arith);
    }
