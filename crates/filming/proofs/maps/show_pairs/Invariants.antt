use Rattle.std.proofs.Common.{take}
use Rattle.std.specs.List.{flat_map}
use Rattle.byte_streams.specs.Output.{Prints}
use Rattle.filming.specs.Maps.{pair_line}
use Rattle.filming.proofs.maps.show_pairs.Given as goal

abbrev pub invariant-loop-pair : goal.invariant-loop-pair
invariant-loop-pair g l = Prints (g.O.Output.state l.initial.out) (g.O.Output.state l.out) (flat_map pair_line (take l.pair-index l.pairs))
