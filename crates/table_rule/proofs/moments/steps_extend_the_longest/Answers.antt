use Rattle.table_rule.proofs.Extended.{steps_extend}
use Rattle.table_rule.proofs.moments.steps_extend_the_longest.Goals as goal

pub returns : goal.returns
returns g c = λ limits. steps_extend limits g.P.Law.law
