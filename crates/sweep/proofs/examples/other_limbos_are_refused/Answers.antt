use Rattle.sweep.proofs.Words.{arith}
use Rattle.sweep.proofs.examples.other_limbos_are_refused.Goals as goal

pub returns-clause-freed : goal.returns-clause-freed
returns-clause-freed c = λ limits kept. kept.rows 5

pub returns-clause-unstamped : goal.returns-clause-unstamped
returns-clause-unstamped c = λ limits kept. kept.rows 5

pub returns-clause-later : goal.returns-clause-later
returns-clause-later c = λ limits kept. let stamp = (kept.rows 5).1 in absurd (omega (arith, stamp))

pub returns-clause-unpassed : goal.returns-clause-unpassed
returns-clause-unpassed c = λ limits some kept. let passed = (kept.rows 5).2 1 some (λ e. cc) in cc

pub returns-clause-missing : goal.returns-clause-missing
returns-clause-missing c = λ limits kept. kept.rows 5
