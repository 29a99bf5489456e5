use Rattle.std.proofs.Common.{◌++◌, get_or, subst}
use Rattle.std.specs.List.{All}
use Rattle.std.proofs.lemmas.List.{take_all}
use Rattle.std.proofs.lemmas.List.Elements.{All-more}
use Rattle.record_slots.specs.Spelling.{items_words}
use Rattle.record_slots.specs.Spells.{IsShortItem}
use Rattle.record_slots.proofs.WrittenLaws.{item_written, room_left}
use Rattle.record_slots.proofs.write.push_items.Goals as goal

pub loop-item-preserved : goal.loop-item-preserved
loop-item-preserved c =
    let items = c.args.items.now in
    let place = c.loop-item.item-index in
    let item = c.item-item.result in
    let within = c.loop-item-test.true in
    let before = c.loop-item.row in
    let now = c.push_item.new.row in
    let more = c.push_item.ensures.words in
    let one : IsShortItem (get_or items place item) = subst IsShortItem c.item-item.is c.push_item.ensures.short in
    record {
      written = item_written items place item within c.item-item.is before now more (c.args.row.now ++ items_words items) c.loop-item.invariant.written;
      room = room_left items place item within c.item-item.is before now more c.loop-item.invariant.room;
      short = All-more IsShortItem items place item within c.loop-item.invariant.short one;
    }

pub returns-clause-short : goal.returns-clause-short
returns-clause-short c = subst (All IsShortItem) (take_all c.loop-item.item-index c.args.items.now c.loop-item-test.false) c.loop-item.invariant.short
