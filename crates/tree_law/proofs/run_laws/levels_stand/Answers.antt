use Rattle.tree_law.proofs.shape.LevelPages.{all_levels}
use Rattle.tree_law.proofs.run_laws.levels_stand.Goals as goal

pub returns : goal.returns
returns c = λ limits entries state. all_levels limits entries state
