use Rattle.tree_picture.proofs.Ranges.{adds_then, few_merge}
use Rattle.tree_picture.proofs.says.with_merge.Goals as goal

pub returns-clause-adds : goal.returns-clause-adds
returns-clause-adds c = adds_then _ _ _ _ _ c.add.ensures (rw c.as_ref.ensures.value at c.with_range.ensures)

pub returns-clause-short : goal.returns-clause-short
returns-clause-short c = few_merge c.args.merge.now
