use Rattle.std.proofs.lemmas.List.{take_all}
use Rattle.byte_streams.proofs.Showing.{shows_then}
use Rattle.tree_picture.specs.Document.{escaped_byte}
use Rattle.drawing.proofs.Bytes.{flat_byte}
use Rattle.drawing.proofs.elements.show_escaped.Goals as goal

pub loop-byte-preserved : goal.loop-byte-preserved
loop-byte-preserved g c =
    rw (flat_byte escaped_byte c.args.bytes.now c.loop-byte.byte-index c.loop-byte-test.true)
    (shows_then c.loop-byte.invariant c.show_byte.ensures)

pub returns : goal.returns
returns g c = rw (take_all c.loop-byte.byte-index c.args.bytes.now c.loop-byte-test.false) at c.loop-byte.invariant
