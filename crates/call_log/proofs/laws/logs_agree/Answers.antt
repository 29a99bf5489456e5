use Rattle.call_log.proofs.Seen.{logs_agree}
use Rattle.call_log.proofs.laws.logs_agree.Goals as goal

pub returns : goal.returns
returns g c = logs_agree g.P.Course.ends
