use Rattle.std.proofs.Common.{drop, reverse}
use Rattle.std.specs.List.{flat_map}
use Rattle.byte_streams.specs.Output.{Prints}
use Rattle.bw_shell.specs.Text.{item_text}
use Rattle.bw_shell.proofs.texts.show_items_back.Given as goal

abbrev pub invariant-loop-place : goal.invariant-loop-place
invariant-loop-place g l =
    Prints (g.O.Output.state l.initial.out) (g.O.Output.state l.out) (flat_map item_text (reverse (drop l.place l.items)))
