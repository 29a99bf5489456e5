use Rattle.linearization.proofs.runs.ClaimedInsert.{is_run, not_linearized}
use Rattle.linearization.proofs.examples.claimed_insert_is_refused.Goals as goal

pub returns-clause-run : goal.returns-clause-run
returns-clause-run c = is_run

pub returns-clause-refused : goal.returns-clause-refused
returns-clause-refused c = not_linearized
