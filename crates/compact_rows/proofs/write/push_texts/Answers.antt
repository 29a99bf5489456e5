use Rattle.compact_rows.proofs.Words.{◌++◌, get_or, ap, length, arith, length-append, ◌∙◌, IsShortItem, item_text, texts}
use Rattle.std.proofs.lemmas.List.{take_all}
use Rattle.std.proofs.lemmas.List.Elements.{All-more}
use Rattle.compact_rows.proofs.Written.{text_left, text_written}
use Rattle.compact_rows.proofs.write.push_texts.Goals as goal

pub loop-item-preserved : goal.loop-item-preserved
loop-item-preserved c =
    let items = c.args.items.now in
    let place = c.loop-item.item-index in
    let item = c.item-item.result in
    let within = c.loop-item-test.true in
    let before = c.loop-item.row in
    let now = c.push_text.new.row in
    let one : IsShortItem (get_or items place item) = rw c.item-item.is at c.push_text.ensures.short in
    let longer = ap length c.push_text.ensures.words ∙ length-append before (item_text item) in
    let left = text_left items place item within c.item-item.is in
    record {
      written = text_written items place item within c.item-item.is before now (c.args.row.now ++ texts items) c.push_text.ensures.words c.loop-item.invariant.written;
      room = let room = c.loop-item.invariant.room in omega arith;
      short = All-more IsShortItem items place item within c.loop-item.invariant.short one;
    }

pub push_text-requires : goal.push_text-requires
push_text-requires c =
    let items = c.args.items.now in
    let left = text_left items c.loop-item.item-index c.item-item.result c.loop-item-test.true c.item-item.is in
    let room = c.loop-item.invariant.room in
    omega arith

pub returns-clause-short : goal.returns-clause-short
returns-clause-short c = rw (take_all c.loop-item.item-index c.args.items.now c.loop-item-test.false) at c.loop-item.invariant.short
