use Rattle.tree_words.proofs.Opens.{opening_is}
use Rattle.tree_words.proofs.opening.opening_is_spelled.Goals as goal

pub returns : goal.returns
returns c = opening_is
