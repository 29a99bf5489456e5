use Rattle.tree_law.proofs.shape.Exactness.{is_indexed}
use Rattle.tree_law.proofs.invariant.levels_are_indexed.Goals as goal

pub returns : goal.returns
returns c = λ memory log o knows point logs g. is_indexed memory g
