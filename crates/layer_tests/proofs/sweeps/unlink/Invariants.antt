use Rattle.sweep.specs.Kept.{IsLimboOf}
use Rattle.layer_tests.proofs.sweeps.unlink.Given as goal

abbrev pub invariant-loop-item : goal.invariant-loop-item
invariant-loop-item l = IsLimboOf l.fn.limits l.limbo
