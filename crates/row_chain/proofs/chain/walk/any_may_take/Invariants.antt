use Rattle.row_chain.proofs.Words.{◌≡◌, drop, contents, is_taken}
use Rattle.std.proofs.Common.{ℕ, List}
use Rattle.row_chain.proofs.chain.walk.any_may_take.Given as goal

abbrev pub invariant-loop-newest : goal.invariant-loop-newest
invariant-loop-newest g l = record { taken : (key : List ℕ) → is_taken (contents (drop l.newest-index l.newer)) key ≡ is_taken (contents l.newer) key }
