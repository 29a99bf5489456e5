use Rattle.std.proofs.Common.{◌≡◌, ◌<◌, ◌++◌, ℕ, Some, drop, map}
use Rattle.std.specs.Prelude.{slice_get}
use Rattle.bw_tree_c.specs.Loaded.{IsShortPair, given_pair}
use Rattle.bw_tree_c.specs.declared.c_types.Pair.{Pair}
use Rattle.bw_tree_c.proofs.c_types.pairs_of.Given as goal

abbrev pub invariant-loop-one : goal.invariant-loop-one
invariant-loop-one l = record {
  pairs : l.pairs.items ++ map given_pair (drop l.one-index l.given) ≡ map given_pair l.given;
  short : (n : ℕ) (pair : Pair) → n < l.one-index → slice_get l.given n ≡ Some pair → IsShortPair pair;
}
