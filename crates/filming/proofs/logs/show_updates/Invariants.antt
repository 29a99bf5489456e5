use Rattle.std.proofs.Common.{take}
use Rattle.std.specs.List.{flat_map}
use Rattle.byte_streams.specs.Output.{Prints}
use Rattle.filming.specs.Logs.{update_line}
use Rattle.filming.proofs.logs.show_updates.Given as goal

abbrev pub invariant-loop-update : goal.invariant-loop-update
invariant-loop-update g l = Prints (g.O.Output.state l.initial.out) (g.O.Output.state l.out) (flat_map update_line (take l.update-index l.log))
