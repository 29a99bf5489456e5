use Rattle.std.proofs.Common.{◌≡◌, ℕ, ◌+◌, ◌≤◌, List, length}
use Rattle.race.proofs.Looking.{AreLooked}
use Rattle.race.proofs.lines.look.Given as goal

abbrev pub invariant-loop-line : goal.invariant-loop-line
invariant-loop-line l = (done : List (List ℕ)) × AreLooked l.bytes done l.rest l.asked.items × (l.number ≡ length done + 1) × (length done + length l.rest ≤ length l.bytes)

abbrev pub decreases-loop-line : goal.decreases-loop-line
decreases-loop-line l = length l.rest
