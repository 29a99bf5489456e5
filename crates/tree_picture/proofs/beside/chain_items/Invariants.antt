use Rattle.std.proofs.Common.{◌≡◌}
use Rattle.tree_picture.proofs.beside.chain_items.Given as goal

abbrev pub invariant-loop-item : goal.invariant-loop-item
invariant-loop-item l = l.sheet ≡ l.initial.sheet
