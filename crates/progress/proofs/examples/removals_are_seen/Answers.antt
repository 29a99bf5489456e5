use Rattle.progress.proofs.Removals.{none_removed, one_removed}
use Rattle.progress.proofs.examples.removals_are_seen.Goals as goal

pub returns-clause-none : goal.returns-clause-none
returns-clause-none c = none_removed

pub returns-clause-one : goal.returns-clause-one
returns-clause-one c = one_removed
