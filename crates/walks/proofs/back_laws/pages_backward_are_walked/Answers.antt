use Rattle.walks.proofs.BackWalked.{walked_back_next, walked_back_on}
use Rattle.walks.proofs.back_laws.pages_backward_are_walked.Goals as goal

pub returns : goal.returns
returns c = record { next = walked_back_next; joined = walked_back_on }
