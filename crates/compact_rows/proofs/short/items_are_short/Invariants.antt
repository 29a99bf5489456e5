use Rattle.compact_rows.proofs.Words.{All, IsShortItem}
use Rattle.std.proofs.Common.{take}
use Rattle.compact_rows.proofs.short.items_are_short.Given as goal

abbrev pub invariant-loop-item : goal.invariant-loop-item
invariant-loop-item l = All IsShortItem (take l.item-index l.items)
