use Rattle.walks.proofs.BackReplying.{back_is_shown}
use Rattle.walks.proofs.BackWalking.{back_tells}
use Rattle.walks.proofs.back_laws.walks_back_tell_the_map.Goals as goal

pub returns : goal.returns
returns c =
    λ limits turns run low upto since pages to till linear walk. back_tells run linear.points low
    (λ page is. back_is_shown limits turns run low page linear is) upto since pages to till walk
