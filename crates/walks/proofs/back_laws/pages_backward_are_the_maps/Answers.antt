use Rattle.walks.proofs.BackReplying.{back_is_shown}
use Rattle.walks.proofs.back_laws.pages_backward_are_the_maps.Goals as goal

pub returns : goal.returns
returns c = back_is_shown
