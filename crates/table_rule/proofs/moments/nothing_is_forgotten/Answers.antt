use Rattle.table_rule.proofs.Later.{sees_on}
use Rattle.table_rule.proofs.moments.nothing_is_forgotten.Goals as goal

pub returns : goal.returns
returns g c = sees_on g.P.Law.law
