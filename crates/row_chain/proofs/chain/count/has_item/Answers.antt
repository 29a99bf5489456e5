use Rattle.row_chain.proofs.Words.{refl, ap, ◌∙◌, is_some, contents}
use Rattle.std.proofs.Common.{[]}
use Rattle.row_chain.proofs.Newest.{alone}
use Rattle.row_chain.proofs.chain.count.has_item.Goals as goal

pub returns-in-Some-clause-has : goal.returns-in-Some-clause-has
returns-in-Some-clause-has g c = c.says_content.ensures.says
    ∙ ap is_some (alone (contents c.args.older.now) (contents c.args.older.now) c.args.key.now _ refl (c.in-Some.ensures.said []))

pub returns-in-None-clause-has : goal.returns-in-None-clause-has
returns-in-None-clause-has g c = ap is_some (alone (contents c.args.older.now) (contents c.args.older.now) c.args.key.now _ refl (c.in-None.ensures.said []))
