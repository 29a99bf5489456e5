use Rattle.progress.proofs.SmallRuns.{filled, itself, taken, won}
use Rattle.progress.proofs.examples.fills_hinder_nobody.Goals as goal

pub returns-clause-won : goal.returns-clause-won
returns-clause-won c = won

pub returns-clause-taken : goal.returns-clause-taken
returns-clause-taken c = taken

pub returns-clause-itself : goal.returns-clause-itself
returns-clause-itself c = itself

pub returns-clause-filled : goal.returns-clause-filled
returns-clause-filled c = filled
