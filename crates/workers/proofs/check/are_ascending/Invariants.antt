use Rattle.workers.proofs.Words.{map, slice_index, ℕ, ◌+◌, ◌<◌}
use Rattle.workers.proofs.check.are_ascending.Given as goal

abbrev pub invariant-loop-place : goal.invariant-loop-place
invariant-loop-place l = (k : ℕ) → k + 1 < l.place → slice_index (map (λ job. job.number) l.jobs) k < slice_index (map (λ job. job.number) l.jobs) (k + 1)
