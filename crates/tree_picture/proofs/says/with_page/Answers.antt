use Rattle.tree_picture.proofs.Ranges.{adds_then, few_child}
use Rattle.tree_picture.proofs.says.with_page.Goals as goal

pub returns-clause-adds : goal.returns-clause-adds
returns-clause-adds c = adds_then _ _ _ _ _ (rw c.from.ensures at c.with_number.ensures) (rw c.held_word.ensures at c.add.ensures)

pub returns-clause-short : goal.returns-clause-short
returns-clause-short c = few_child c.args.page c.args.held c.ranges.page.fits
