use Rattle.tree_picture.proofs.Ranges.{adds_then}
use Rattle.tree_picture.proofs.write.with_key.Goals as goal

pub returns : goal.returns
returns c = adds_then _ _ _ _ _ c.add.ensures c.add_key.ensures
