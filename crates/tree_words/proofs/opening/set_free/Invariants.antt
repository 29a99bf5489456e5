use Rattle.std.proofs.Common.{◌≡◌}
use Rattle.tree_words.specs.Opening.{with_ones}
use Rattle.tree_words.proofs.opening.set_free.Given as goal

abbrev pub invariant-loop-place : goal.invariant-loop-place
invariant-loop-place l = l.words ≡ with_ones l.from l.place l.initial.words
