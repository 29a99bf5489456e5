use Rattle.std.proofs.Common.{◌≡◌, take}
use Rattle.std.specs.List.{flat_map}
use Rattle.byte_streams.specs.Output.{Prints}
use Rattle.tree_picture.specs.Document.{element_text}
use Rattle.tree_picture.specs.Elements.{stand_elements}
use Rattle.drawing.proofs.elements.show_stands.Given as goal

abbrev pub invariant-loop-stand : goal.invariant-loop-stand
invariant-loop-stand g l = record {
  shown : Prints (g.O.Output.state l.initial.out) (g.O.Output.state l.out) (flat_map element_text (stand_elements l.corner 0 (take l.stand-index l.stands)));
  place : l.place ≡ l.stand-index;
}
