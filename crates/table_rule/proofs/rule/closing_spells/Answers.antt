use Rattle.table_rule.proofs.Left.{closes}
use Rattle.table_rule.proofs.rule.closing_spells.Goals as goal

pub returns : goal.returns
returns g c = λ limits. closes limits (g.P.Law.law limits)
