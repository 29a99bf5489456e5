use Rattle.table_rule.proofs.Later.{operations_turn, allowed_operate}
use Rattle.table_rule.proofs.moments.operations_are_moments.Goals as goal

pub returns : goal.returns
returns g c = record { turn = operations_turn g.P.Law.law; operate = allowed_operate g.P.Law.law }
