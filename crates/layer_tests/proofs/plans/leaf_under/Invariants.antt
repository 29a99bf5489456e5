use Rattle.std.proofs.Common.{◌≡◌, false}
use Rattle.traces.specs.chain.Chains.{is_removed}
use Rattle.layer_tests.proofs.plans.leaf_under.Given as goal

abbrev pub invariant-loop : goal.invariant-loop
invariant-loop g l = is_removed l.page.chain ≡ false
