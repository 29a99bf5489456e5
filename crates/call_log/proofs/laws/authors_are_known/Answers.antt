use Rattle.call_log.proofs.Seen.{authors_known}
use Rattle.call_log.proofs.laws.authors_are_known.Goals as goal

pub returns-clause-known : goal.returns-clause-known
returns-clause-known g c = authors_known g.P.Course.ends
