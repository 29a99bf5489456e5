use Rattle.table_rule.proofs.Longest.{longest_seen}
use Rattle.table_rule.proofs.rule.longest_is_seen.Goals as goal

pub returns : goal.returns
returns g c = λ limits. longest_seen limits (g.P.Law.law limits)
