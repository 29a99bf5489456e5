use Rattle.std.proofs.Common.{◌≡◌, ◌++◌, take}
use Rattle.base_page.proofs.items.Items.append.Given as goal

abbrev pub invariant-loop-item : goal.invariant-loop-item
invariant-loop-item l = l.self-inside.items.items ≡ l.initial.self-inside.items.items ++ take l.item-index l.item-items
