-- How many deltas are many.
use Rattle.std.specs.Prelude.{◌==◌}
use Rattle.structure_changes.proofs.Words.{◌≤◌, ℕ, Bool, true, false, arith, if◌then◌else◌}
use Rattle.tree_limits.specs.declared.limits.Limits.{Limits}
use Rattle.structure_changes.specs.Sizes.{many_of}

pub few_many : (limits : Limits) (level : ℕ) → many_of limits level ≤ 8
few_many limits level = by_test limits.is_large (level == 0)
  where
    by_test : (large leaf : Bool) → (if large then (if leaf then 2 else 1) else 8) ≤ 8
    by_test true true = omega arith
    by_test true false = omega arith
    by_test false leaf = omega arith
