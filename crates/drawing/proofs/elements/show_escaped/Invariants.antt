use Rattle.std.proofs.Common.{take}
use Rattle.std.specs.List.{flat_map}
use Rattle.byte_streams.specs.Output.{Prints}
use Rattle.tree_picture.specs.Document.{escaped_byte}
use Rattle.drawing.proofs.elements.show_escaped.Given as goal

abbrev pub invariant-loop-byte : goal.invariant-loop-byte
invariant-loop-byte g l = Prints (g.O.Output.state l.initial.out) (g.O.Output.state l.out) (flat_map escaped_byte (take l.byte-index l.bytes))
