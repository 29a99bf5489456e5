use Rattle.walks.proofs.BackWalking.{back_walk_on, back_walk_stays}
use Rattle.walks.proofs.back_laws.walks_back_go_on.Goals as goal

pub returns : goal.returns
returns c = record { longer = back_walk_stays; joined = back_walk_on }
