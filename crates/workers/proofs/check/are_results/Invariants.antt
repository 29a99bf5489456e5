use Rattle.workers.proofs.Words.{IsResultOf, Job, JobResult, Some, slice_get, ℕ, ◌<◌, ◌≡◌}
use Rattle.workers.proofs.check.are_results.Given as goal

abbrev pub invariant-loop-place : goal.invariant-loop-place
invariant-loop-place g l = (n : ℕ) (job : Job) (given : JobResult _) → n < l.place → slice_get l.jobs n ≡ Some job → slice_get l.results n ≡ Some given → IsResultOf job given
