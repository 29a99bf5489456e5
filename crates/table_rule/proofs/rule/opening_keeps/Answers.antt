use Rattle.tree_words.specs.Opening.{opening_words}
use Rattle.table_rule.proofs.Dealt.{opens}
use Rattle.table_rule.proofs.rule.opening_keeps.Goals as goal

pub returns : goal.returns
returns g c = λ limits legal. opens limits (g.P.Law.law limits) (opening_words limits) (c.opening_is_spelled.ensures limits) legal
