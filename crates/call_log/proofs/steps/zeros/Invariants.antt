use Rattle.std.proofs.Common.{◌≡◌, ◌-◌, ◌≤◌, length, replicate}
use Rattle.call_log.proofs.steps.zeros.Given as goal

abbrev pub invariant-loop-words : goal.invariant-loop-words
invariant-loop-words l = (l.words.items ≡ replicate (length l.words.items) 0) × (length l.words.items ≤ l.count)

abbrev pub decreases-loop-words : goal.decreases-loop-words
decreases-loop-words l = l.count - length l.words.items
