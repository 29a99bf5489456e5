use Rattle.sweep.proofs.SmallLimbo.{small_kept}
use Rattle.sweep.proofs.examples.small_limbo_is_kept.Goals as goal

pub returns : goal.returns
returns c = small_kept
