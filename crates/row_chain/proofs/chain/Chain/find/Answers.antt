use Rattle.row_chain.proofs.Words.{ap, ◌∙◌, contents}
use Rattle.std.proofs.Common.{[]}
use Rattle.base_page.specs.Pages.{value_in}
use Rattle.row_chain.proofs.Newest.{alone}
use Rattle.row_chain.proofs.chain.Chain.find.Goals as goal

pub returns-in-Some-clause-value : goal.returns-in-Some-clause-value
returns-in-Some-clause-value g c = c.value_said.ensures.said
    ∙ ap value_in (alone (contents c.as_read.result.now) c.args.self.now.records c.args.key.now _ c.as_read.ensures.records (c.in-Some.ensures.said []))

pub returns-in-None-clause-value : goal.returns-in-None-clause-value
returns-in-None-clause-value g c = ap value_in (alone (contents c.as_read.result.now) c.args.self.now.records c.args.key.now _ c.as_read.ensures.records (c.in-None.ensures.said []))
