use Rattle.linearization.proofs.LogLaws.{log_of-push}
use Rattle.linearization.proofs.log_laws.log_grows.Goals as goal

pub returns : goal.returns
returns c = log_of-push
