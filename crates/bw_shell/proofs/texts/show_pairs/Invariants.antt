use Rattle.std.proofs.Common.{take}
use Rattle.std.specs.List.{flat_map}
use Rattle.byte_streams.specs.Output.{Prints}
use Rattle.bw_shell.specs.Text.{pair_text}
use Rattle.bw_shell.proofs.texts.show_pairs.Given as goal

abbrev pub invariant-loop-pair : goal.invariant-loop-pair
invariant-loop-pair g l =
    Prints (g.O.Output.state l.initial.out) (g.O.Output.state l.out) (flat_map pair_text (take l.pair-index l.pairs))
