use Rattle.std.proofs.Common.{take}
use Rattle.std.specs.List.{flat_map}
use Rattle.byte_streams.specs.Output.{Prints}
use Rattle.bw_shell.specs.Text.{item_text}
use Rattle.bw_shell.proofs.texts.show_items.Given as goal

abbrev pub invariant-loop-item : goal.invariant-loop-item
invariant-loop-item g l =
    Prints (g.O.Output.state l.initial.out) (g.O.Output.state l.out) (flat_map item_text (take l.item-index l.items))
