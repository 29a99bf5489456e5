use Rattle.walks.proofs.Replying.{page_is_shown}
use Rattle.walks.proofs.walk_laws.pages_are_the_maps.Goals as goal

pub returns : goal.returns
returns c = page_is_shown
