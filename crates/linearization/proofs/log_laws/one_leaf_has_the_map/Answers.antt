use Rattle.linearization.proofs.MapLaws.{one_leaf}
use Rattle.linearization.proofs.log_laws.one_leaf_has_the_map.Goals as goal

pub returns : goal.returns
returns c = one_leaf
