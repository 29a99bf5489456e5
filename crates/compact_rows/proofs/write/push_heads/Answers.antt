use Rattle.compact_rows.proofs.Words.{◌++◌, ◌∷◌, [], ◌∙◌, ap, length, arith, length-append, big_endian, heads}
use Rattle.compact_rows.proofs.Written.{head_written, one_left}
use Rattle.compact_rows.proofs.write.push_heads.Goals as goal

pub loop-item-preserved : goal.loop-item-preserved
loop-item-preserved c =
    let items = c.args.items.now in
    let place = c.loop-item.item-index in
    let item = c.item-item.result in
    let within = c.loop-item-test.true in
    let left = one_left items place item within c.item-item.is in
    let longer = ap length c.push.ensures ∙ length-append c.loop-item.row (c.word_at.result ∷ []) in
    let before = c.loop-item.invariant.count in
    record {
      written = head_written items place item within c.item-item.is c.loop-item.row c.push.new.self (c.args.row.now ++ heads items)
          (c.push.ensures ∙ (λ i. c.loop-item.row ++ (c.word_at.ensures ∙ ap (big_endian 8) c.key_bytes.ensures.bytes) i ∷ []))
          c.loop-item.invariant.written;
      count = omega (arith, longer, left, before);
    }
