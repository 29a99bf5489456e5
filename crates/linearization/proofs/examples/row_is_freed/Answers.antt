use Rattle.linearization.proofs.runs.RowReuse.{is_run, is_freed_by_rule}
use Rattle.linearization.proofs.examples.row_is_freed.Goals as goal

pub returns-clause-run : goal.returns-clause-run
returns-clause-run c = is_run

pub returns-clause-freed : goal.returns-clause-freed
returns-clause-freed c = is_freed_by_rule
