use Rattle.sweep.specs.Kept.{IsLimboOf}
use Rattle.layer_tests.proofs.long_limbo.sweeps.Given as goal

abbrev pub invariant-loop : goal.invariant-loop
invariant-loop l = IsLimboOf l.fn.limits l.limbo

abbrev pub invariant-loop-count : goal.invariant-loop-count
invariant-loop-count l = IsLimboOf l.fn.limits l.limbo
