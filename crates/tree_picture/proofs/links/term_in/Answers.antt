use Rattle.std.proofs.Common.{[], Some, ap, arith, false, ◌∙◌}
use Rattle.base_page.specs.declared.item.Content.TheVariants.{Child}
use Rattle.base_page.specs.declared.item.Item.{Item}
use Rattle.tree_picture.proofs.Marking.{at_item, item_found}
use Rattle.tree_picture.proofs.links.term_in.Goals as goal

pub returns-in-Some : goal.returns-in-Some
returns-in-Some c = (c.item-item.result.key, item_found c.args.items.now c.loop-item.item-index c.item-item.result c.requires c.loop-item-test.true c.item-item.is ∙ ap Some c.in-Some.ensures)

pub returns : goal.returns
returns c = λ held key is.
    let found = at_item c.args.items.now key (Child c.args.pid held) is in
    let some : Item = record { key = []; content = Child 0 false } in
    c.loop-item.invariant found.0 some (let there = found.1 in omega (arith, there, c.loop-item-test.false)) held (found.2 some)
