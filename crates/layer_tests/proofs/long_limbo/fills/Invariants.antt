use Rattle.sweep.specs.Kept.{IsLimboOf}
use Rattle.layer_tests.proofs.long_limbo.fills.Given as goal

abbrev pub invariant-loop-place : goal.invariant-loop-place
invariant-loop-place l = IsLimboOf l.fn.limits l.limbo
