use Rattle.row_chain.proofs.Standing.{some_read}
use Rattle.row_chain.proofs.chain.Chain.was_read.Goals as goal

pub returns : goal.returns
returns g c = some_read (g.R.Rows.has c.args.rows.now c.args.pass.now) c.args.self.now c.requires
