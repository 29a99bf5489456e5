use Rattle.row_chain.proofs.Words.{sym, subst}
use Rattle.row_chain.specs.Placed.{IsReadChain}
use Rattle.row_chain.proofs.Standing.{are_there}
use Rattle.row_chain.proofs.chain.Chain.as_read.Goals as goal

pub returns-clause-there : goal.returns-clause-there
returns-clause-there g c =
    let is_there = g.R.Rows.has c.args.rows.now c.args.pass.now in
    are_there is_there c.self.inside.part c.as_slice.result.now (subst (IsReadChain is_there) (sym c.self.view_is) c.requires) c.as_slice.ensures.from c.as_slice.ensures.records
