use Rattle.std.proofs.Common.{take}
use Rattle.std.specs.List.{flat_map}
use Rattle.byte_streams.specs.Output.{Prints}
use Rattle.filming.specs.Maps.{gain_text}
use Rattle.filming.proofs.maps.show_gains.Given as goal

abbrev pub invariant-loop-pair : goal.invariant-loop-pair
invariant-loop-pair g l = Prints (g.O.Output.state l.initial.out) (g.O.Output.state l.out) (flat_map (gain_text l.before) (take l.pair-index l.after))
