use Rattle.tree_picture.proofs.Celling.{few_behind}
use Rattle.tree_picture.proofs.cells.with_behind.Goals as goal

pub returns-clause-short : goal.returns-clause-short
returns-clause-short c = few_behind c.args.before.now c.args.number c.requires c.ranges.number.fits
