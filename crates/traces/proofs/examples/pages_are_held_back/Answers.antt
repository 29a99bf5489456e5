use Rattle.traces.proofs.HeldExamples.{first, beside, many, held, apart, other}
use Rattle.traces.proofs.examples.pages_are_held_back.Goals as goal

pub returns-clause-first : goal.returns-clause-first
returns-clause-first c = first

pub returns-clause-beside : goal.returns-clause-beside
returns-clause-beside c = beside

pub returns-clause-many : goal.returns-clause-many
returns-clause-many c = many

pub returns-clause-held : goal.returns-clause-held
returns-clause-held c = held

pub returns-clause-apart : goal.returns-clause-apart
returns-clause-apart c = apart

pub returns-clause-other : goal.returns-clause-other
returns-clause-other c = other
