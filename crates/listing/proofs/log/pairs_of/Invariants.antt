use Rattle.listing.proofs.Words.{◌≡◌, ◌++◌}
use Rattle.listing.proofs.log.pairs_of.Given as goal

abbrev pub invariant-loop-key : goal.invariant-loop-key
invariant-loop-key l = l.pairs.items ++ l.key-iterator ≡ l.values.entries
