use Rattle.std.proofs.Common.{map}
use Rattle.race.specs.Lists.{AreListsOf}
use Rattle.race.proofs.jobs.lists_of.Given as goal

abbrev pub invariant-loop-asks : goal.invariant-loop-asks
invariant-loop-asks l = AreListsOf l.yielded (map (λ list. list.items) l.lists.items)
