use Rattle.row_chain.proofs.Words.{◌≡◌, length, suc, ap, ◌∙◌, arith, Record, row_of}
use Rattle.row_chain.proofs.Bases.{start_of_last}
use Rattle.row_chain.proofs.Standing.{content_there}
use Rattle.row_chain.proofs.chain.Chain.base_read.Goals as goal

pub returns-clause-low : goal.returns-clause-low
returns-clause-low g c =
    let place = c.deltas.result in
    let row = c.index-as_read-deltas.result in
    let last : suc place ≡ length c.args.self.now.records = let d = c.deltas.ensures in omega (arith, d) in
    ap (λ (r : Record). (row_of r).first) (content_there c.as_read.result.now c.args.self.now.records place row c.as_read.ensures.records c.index-as_read-deltas.is (omega arith))
    ∙ (start_of_last c.args.self.now.records place row.content c.keeps_rules.ensures.fitted last).1
