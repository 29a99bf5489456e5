use Rattle.std.proofs.Common.{◌≡◌, map, replicate, []}
use Rattle.race.proofs.jobs.no_lists.Given as goal

abbrev pub invariant-loop-number : goal.invariant-loop-number
invariant-loop-number l = map (λ list. list.items) l.lists.items ≡ replicate l._number []
