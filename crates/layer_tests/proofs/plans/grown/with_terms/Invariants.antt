use Rattle.std.proofs.Common.{◌≡◌, false}
use Rattle.traces.specs.chain.Chains.{is_removed}
use Rattle.layer_tests.proofs.plans.grown.with_terms.Given as goal

abbrev pub invariant-loop-place : goal.invariant-loop-place
invariant-loop-place g l = is_removed l.parent.chain ≡ false
