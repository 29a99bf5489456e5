use Rattle.table_rule.proofs.Growing.{real_time}
use Rattle.table_rule.proofs.moments.keeps_real_time.Goals as goal

pub returns : goal.returns
returns g c = λ limits. real_time limits g.P.Law.law
