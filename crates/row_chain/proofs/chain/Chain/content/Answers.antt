use Rattle.row_chain.proofs.Words.{◌∙◌, contents}
use Rattle.std.proofs.Common.{[]}
use Rattle.row_chain.proofs.Newest.{alone}
use Rattle.row_chain.proofs.chain.Chain.content.Goals as goal

pub returns-in-Some-clause-content : goal.returns-in-Some-clause-content
returns-in-Some-clause-content g c = c.content_said.ensures.said ∙ alone (contents c.as_read.result.now) c.args.self.now.records c.args.key.now _ c.as_read.ensures.records (c.in-Some.ensures.said [])

pub returns-in-None-clause-content : goal.returns-in-None-clause-content
returns-in-None-clause-content g c = alone (contents c.as_read.result.now) c.args.self.now.records c.args.key.now _ c.as_read.ensures.records (c.in-None.ensures.said [])
