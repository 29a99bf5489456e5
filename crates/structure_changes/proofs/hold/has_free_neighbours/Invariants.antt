use Rattle.structure_changes.proofs.Words.{ℕ, suc, ◌<◌, IsFreeBeside}
use Rattle.structure_changes.proofs.hold.has_free_neighbours.Given as goal

abbrev pub invariant-loop-place : goal.invariant-loop-place
invariant-loop-place l = (place : ℕ) → suc place < l.place → IsFreeBeside l.key l.items place (suc place) × IsFreeBeside l.key l.items (suc place) place
