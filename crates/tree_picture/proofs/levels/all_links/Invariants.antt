use Rattle.std.proofs.Common.{◌≡◌}
use Rattle.tree_picture.proofs.levels.all_links.Given as goal

abbrev pub invariant-loop-level : goal.invariant-loop-level
invariant-loop-level l = l.sheet ≡ l.initial.sheet
