use Rattle.walks.proofs.Replying.{page_is_shown}
use Rattle.walks.proofs.Walking.{walk_tells}
use Rattle.walks.proofs.walk_laws.walks_tell_the_map.Goals as goal

pub returns : goal.returns
returns c =
    λ limits turns run bound from since pages to till linear walk. walk_tells run linear.points bound (λ page is. page_is_shown limits turns run bound page linear is) from since pages to till walk
