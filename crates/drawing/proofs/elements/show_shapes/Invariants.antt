use Rattle.std.proofs.Common.{take}
use Rattle.std.specs.List.{flat_map}
use Rattle.byte_streams.specs.Output.{Prints}
use Rattle.tree_picture.specs.Document.{element_text}
use Rattle.tree_picture.specs.Elements.{elements_of}
use Rattle.drawing.proofs.elements.show_shapes.Given as goal

abbrev pub invariant-loop-shape : goal.invariant-loop-shape
invariant-loop-shape g l = Prints (g.O.Output.state l.initial.out) (g.O.Output.state l.out) (flat_map element_text (flat_map elements_of (take l.shape-index l.shapes)))
