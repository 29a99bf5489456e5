use Rattle.progress.proofs.RoundRuns.{goes_by_root, lookup_leaves, lookup_runs}
use Rattle.progress.proofs.examples.lookups_go_left.Goals as goal

pub returns-clause-runs : goal.returns-clause-runs
returns-clause-runs c = lookup_runs

pub returns-clause-leaves : goal.returns-clause-leaves
returns-clause-leaves c = lookup_leaves

pub returns-clause-root : goal.returns-clause-root
returns-clause-root c = goes_by_root
