use Rattle.std.proofs.Common.{◌≡◌}
use Rattle.tree_picture.proofs.beside.beside.Given as goal

abbrev pub invariant-loop-place : goal.invariant-loop-place
invariant-loop-place l = l.sheet ≡ l.initial.sheet
