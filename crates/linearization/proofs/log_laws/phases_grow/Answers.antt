use Rattle.linearization.proofs.PhaseLaws.{KeepsPhases-push}
use Rattle.linearization.proofs.log_laws.phases_grow.Goals as goal

pub returns : goal.returns
returns c = KeepsPhases-push
