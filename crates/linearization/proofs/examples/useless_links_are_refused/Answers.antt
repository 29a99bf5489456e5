use Rattle.linearization.proofs.runs.Refused.{not_direct, not_reading, not_useful}
use Rattle.linearization.proofs.examples.useless_links_are_refused.Goals as goal

pub returns-clause-twice : goal.returns-clause-twice
returns-clause-twice c = not_direct

pub returns-clause-needless : goal.returns-clause-needless
returns-clause-needless c = not_useful

pub returns-clause-reading : goal.returns-clause-reading
returns-clause-reading c = not_reading
