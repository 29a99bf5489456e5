use Rattle.std.proofs.lemmas.List.{take_all}
use Rattle.tree_picture.proofs.Drawn.{no_records, records_then}
use Rattle.tree_picture.proofs.Lines.{lines_next}
use Rattle.tree_picture.proofs.boxes.record_boxes.Goals as goal

pub loop-place-init : goal.loop-place-init
loop-place-init c = no_records _

pub loop-place-preserved : goal.loop-place-preserved
loop-place-preserved c =
    records_then _ _ _ _ _ _ c.loop-place.invariant c.in_ok-record_box.ensures
    (lines_next c.args.records.now c.loop-place.place c.index-records-place.result c.loop-place-test.true c.index-records-place.is)

pub returns : goal.returns
returns c = rw (take_all c.loop-place.place c.args.records.now c.loop-place-test.false) at c.loop-place.invariant
