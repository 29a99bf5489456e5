use Rattle.traces.proofs.TraceLaws.{memory_of-push, memory_at-push}
use Rattle.traces.proofs.trace_laws.memory_grows.Goals as goal

pub returns-clause-after : goal.returns-clause-after
returns-clause-after c = memory_of-push

pub returns-clause-before : goal.returns-clause-before
returns-clause-before c = memory_at-push
