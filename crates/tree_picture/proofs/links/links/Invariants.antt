use Rattle.std.proofs.Common.{◌≡◌}
use Rattle.tree_picture.proofs.links.links.Given as goal

abbrev pub invariant-loop-place : goal.invariant-loop-place
invariant-loop-place l = l.sheet ≡ l.initial.sheet

abbrev pub invariant-loop-place-2 : goal.invariant-loop-place-2
invariant-loop-place-2 l = l.sheet ≡ l.initial.sheet
