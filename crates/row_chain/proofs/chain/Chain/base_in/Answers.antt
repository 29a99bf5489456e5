use Rattle.row_chain.proofs.Words.{◌≡◌, suc, length, get_or, ap, ◌∙◌, arith, Record, row_of}
use Rattle.row_chain.proofs.Making.{base_at}
use Rattle.row_chain.proofs.Standing.{content_there}
use Rattle.row_chain.proofs.chain.Chain.base_in.Goals as goal

pub base_in-requires-clause-base : goal.base_in-requires-clause-base
base_in-requires-clause-base g c =
    let chain = c.args.self.now.records in
    let place = c.deltas.result in
    let row = c.index-as_read-deltas.result in
    let last : suc place ≡ length chain = let d = c.deltas.ensures in omega (arith, d) in
    let is : row.content ≡ get_or chain place row.content = content_there c.as_read.result.now chain place row c.as_read.ensures.records c.index-as_read-deltas.is (omega arith) in
    let base = base_at chain place row.content c.keeps_rules.ensures.fitted last in
    ap (λ (one : Record). (row_of one).kind) (is ∙ base.1)
