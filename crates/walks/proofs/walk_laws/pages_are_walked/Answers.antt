use Rattle.walks.proofs.Walked.{walked_next, walked_on}
use Rattle.walks.proofs.walk_laws.pages_are_walked.Goals as goal

pub returns : goal.returns
returns c = record { next = walked_next; joined = walked_on }
