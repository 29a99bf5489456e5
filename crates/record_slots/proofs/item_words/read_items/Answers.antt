use Rattle.std.proofs.Common.{arith}
use Rattle.std.proofs.lemmas.List.Elements.{All-push}
use Rattle.record_slots.specs.Parts.{IsItem}
use Rattle.record_slots.proofs.ItemLaws.{items_grow, no_items}
use Rattle.record_slots.proofs.item_words.read_items.Goals as goal

pub returns-in-Err-clause-none : goal.returns-in-Err-clause-none
returns-in-Err-clause-none c is items are =
    no_items c.args.level c.args.count c.loop-place.place c.args.words.now c.loop-place-test.true c.in-Err.ensures items are

pub loop-place-preserved : goal.loop-place-preserved
loop-place-preserved c =
    let before = c.loop-place.items.items in
    let item = c.in-Ok.item in
    let grown = c.push.ensures.items in
    let longer = c.push.ensures.len in
    let is = c.in-Ok.ensures in
    record {
      counts = omega (arith, longer, c.loop-place.invariant.counts);
      each = rw grown (All-push (IsItem c.args.level) before item c.loop-place.invariant.each is.is);
      are = items_grow c.args.level c.loop-place.place c.args.words.now before c.push.new.self.items item grown c.loop-place.invariant.are is;
    }
