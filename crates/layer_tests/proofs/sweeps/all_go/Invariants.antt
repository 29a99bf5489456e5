use Rattle.sweep.specs.Kept.{IsLimboOf}
use Rattle.layer_tests.proofs.sweeps.all_go.Given as goal

abbrev pub invariant-loop-case : goal.invariant-loop-case
invariant-loop-case l = IsLimboOf l.fn.limits l.limbo
