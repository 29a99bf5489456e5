use Rattle.std.proofs.Common.{take}
use Rattle.std.specs.List.{flat_map}
use Rattle.byte_streams.specs.Output.{Prints}
use Rattle.filming.specs.Maps.{loss_text}
use Rattle.filming.proofs.maps.show_losses.Given as goal

abbrev pub invariant-loop-pair : goal.invariant-loop-pair
invariant-loop-pair g l = Prints (g.O.Output.state l.initial.out) (g.O.Output.state l.out) (flat_map (loss_text l.after) (take l.pair-index l.before))
