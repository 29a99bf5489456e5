use Rattle.table_rule.proofs.Growing.{history_grows}
use Rattle.table_rule.proofs.moments.history_grows.Goals as goal

pub returns : goal.returns
returns g c = λ limits. history_grows limits g.P.Law.law
