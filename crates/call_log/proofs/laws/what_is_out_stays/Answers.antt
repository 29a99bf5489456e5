use Rattle.call_log.proofs.Logs.{stays_out}
use Rattle.call_log.proofs.laws.what_is_out_stays.Goals as goal

pub returns : goal.returns
returns g c = stays_out g.P.Course.ends
