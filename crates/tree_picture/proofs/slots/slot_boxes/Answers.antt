use Rattle.std.proofs.lemmas.List.{take_all}
use Rattle.tree_picture.proofs.Heights.{map_more}
use Rattle.tree_picture.proofs.Drawn.{no_slots, slots_then}
use Rattle.tree_picture.specs.Touches.{with_touch}
use Rattle.tree_picture.proofs.slots.slot_boxes.Goals as goal

pub loop-each-init : goal.loop-each-init
loop-each-init c = no_slots _

pub loop-each-preserved : goal.loop-each-preserved
loop-each-preserved c =
    slots_then _ _ _ _ _ _ c.loop-each.invariant (rw c.slot-touch.ensures at c.in_ok-slot.ensures)
    (map_more (with_touch c.args.touched) c.args.slots.now c.loop-each.each-index _ c.loop-each-test.true)

pub returns : goal.returns
returns c = rw (take_all c.loop-each.each-index c.args.slots.now c.loop-each-test.false) at c.loop-each.invariant
