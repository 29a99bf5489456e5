use Rattle.std.proofs.Common.{◌≡◌, take}
use Rattle.base_page.proofs.items.Items.split_off.Given as goal

abbrev pub invariant-loop-item : goal.invariant-loop-item
invariant-loop-item l = l.back.items ≡ take l.item-index l.item-items
