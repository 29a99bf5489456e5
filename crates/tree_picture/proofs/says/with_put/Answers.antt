use Rattle.tree_picture.proofs.Ranges.{adds_then, few_put}
use Rattle.tree_picture.proofs.says.with_put.Goals as goal

pub returns-clause-adds : goal.returns-clause-adds
returns-clause-adds c = adds_then _ _ _ _ _ (rw c.as_slice.ensures.bytes at c.with_key.ensures) (rw c.as_slice-2.ensures.bytes at c.with_token.ensures)

pub returns-clause-short : goal.returns-clause-short
returns-clause-short c = few_put c.args.put.now
