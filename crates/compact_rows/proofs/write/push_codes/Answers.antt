use Rattle.compact_rows.proofs.Words.{◌++◌, ◌∷◌, [], ◌∙◌, ap, length, arith, length-append, codes}
use Rattle.compact_rows.proofs.Written.{code_written, one_left, text_left}
use Rattle.compact_rows.proofs.write.push_codes.Goals as goal

pub loop-item-preserved : goal.loop-item-preserved
loop-item-preserved c =
    let items = c.args.items.now in
    let place = c.loop-item.item-index in
    let item = c.item-item.result in
    let within = c.loop-item-test.true in
    let left = one_left items place item within c.item-item.is in
    let text = text_left items place item within c.item-item.is in
    let longer = ap length c.push.ensures ∙ length-append c.loop-item.row (c.item_code.result ∷ []) in
    let size = c.item_size-next.ensures.size in
    let v = c.loop-item.invariant in
    let count = v.count in
    let low = v.low in
    record {
      written = code_written items place item within c.item-item.is c.loop-item.row c.push.new.self (c.args.row.now ++ codes c.args.at items) c.loop-item.next _
          (c.push.ensures ∙ ap (λ word. c.loop-item.row ++ word ∷ []) c.item_code.ensures) (omega arith) v.written;
      count = omega arith;
      low = omega arith;
    }
