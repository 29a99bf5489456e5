use Rattle.std.proofs.lemmas.List.{take_all}
use Rattle.tree_picture.specs.RecordLines.{item_line}
use Rattle.tree_picture.proofs.Drawn.{no_records, records_then}
use Rattle.tree_picture.proofs.Heights.{map_next}
use Rattle.tree_picture.proofs.boxes.item_lines.Goals as goal

pub loop-item-init : goal.loop-item-init
loop-item-init c = no_records _

pub loop-item-preserved : goal.loop-item-preserved
loop-item-preserved c =
    records_then _ _ _ _ _ _ c.loop-item.invariant (rw (c.item_words.ensures, c.is_unnamed.ensures) at c.in_ok-record_line.ensures)
    (map_next (item_line c.args.newer.now) c.args.items.now c.loop-item.item-index c.item-item.result c.loop-item-test.true c.item-item.is)

pub returns : goal.returns
returns c = rw (take_all c.loop-item.item-index c.args.items.now c.loop-item-test.false) at c.loop-item.invariant
