use Rattle.std.proofs.Common.{◌≡◌, length}
use Rattle.bw_tree_c.specs.Shown.{ShowFirst}
use Rattle.bw_tree_c.proofs.c_types.set_pairs.Given as goal

abbrev pub invariant-loop-place : goal.invariant-loop-place
invariant-loop-place l = record {
  shows : ShowFirst l.place l.items l.pairs;
  long : length l.pairs ≡ length l.fn.pairs;
}
