use Rattle.compact_rows.proofs.Words.{get_or, IsShortItem}
use Rattle.std.proofs.lemmas.List.{take_all}
use Rattle.std.proofs.lemmas.List.Elements.{All-more}
use Rattle.compact_rows.proofs.short.items_are_short.Goals as goal

pub loop-item-preserved : goal.loop-item-preserved
loop-item-preserved c =
    let items = c.args.items.now in
    let place = c.loop-item.item-index in
    let item = c.item-item.result in
    let one : IsShortItem (get_or items place item) = rw c.item-item.is at c.item_is_short.ensures in
    All-more IsShortItem items place item c.loop-item-test.true c.loop-item.invariant one

pub returns : goal.returns
returns c = rw (take_all c.loop-item.item-index c.args.items.now c.loop-item-test.false) at c.loop-item.invariant
