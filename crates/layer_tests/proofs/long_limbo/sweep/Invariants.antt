use Rattle.std.proofs.Common.{◌≡◌}
use Rattle.sweep.specs.Sweeps.{IsSoundSweep}
use Rattle.layer_tests.proofs.long_limbo.sweep.Given as goal

abbrev pub invariant-loop : goal.invariant-loop
invariant-loop l = IsSoundSweep l.sweep l.limbo × (l.sweep.limits ≡ l.fn.limits)
