use Rattle.tree_law.proofs.links.Keeping as keeping
use Rattle.tree_law.proofs.invariant.one_begin_keeps.Goals as goal

pub returns : goal.returns
returns c = λ m log o knows point logs g a command. keeping.begins g a command
