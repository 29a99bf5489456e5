use Rattle.std.proofs.lemmas.List.{take_all}
use Rattle.byte_streams.proofs.Showing.{shows_then}
use Rattle.drawing.proofs.Bytes.{elements_more}
use Rattle.drawing.proofs.elements.show_shapes.Goals as goal

pub loop-shape-preserved : goal.loop-shape-preserved
loop-shape-preserved g c =
    rw (elements_more c.args.shapes.now c.loop-shape.shape-index c.shape-item.result c.loop-shape-test.true c.shape-item.is)
    (shows_then c.loop-shape.invariant c.show_shape.ensures)

pub returns : goal.returns
returns g c = rw (take_all c.loop-shape.shape-index c.args.shapes.now c.loop-shape-test.false) at c.loop-shape.invariant
