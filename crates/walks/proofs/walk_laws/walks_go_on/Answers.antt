use Rattle.walks.proofs.Walking.{walk_on, walk_stays}
use Rattle.walks.proofs.walk_laws.walks_go_on.Goals as goal

pub returns : goal.returns
returns c = record { longer = walk_stays; joined = walk_on }
