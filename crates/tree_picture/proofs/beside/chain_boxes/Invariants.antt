use Rattle.std.proofs.Common.{◌≡◌}
use Rattle.tree_picture.proofs.beside.chain_boxes.Given as goal

abbrev pub invariant-loop : goal.invariant-loop
invariant-loop l = l.sheet ≡ l.initial.sheet
