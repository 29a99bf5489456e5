use Rattle.linearization.proofs.LogLaws.{log_of-marked}
use Rattle.linearization.proofs.log_laws.late_mark_keeps_log.Goals as goal

pub returns : goal.returns
returns c = log_of-marked
