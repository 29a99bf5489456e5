use Rattle.walks.proofs.NextPairs.{tells_next, tells_next_back}
use Rattle.walks.proofs.neighbour_laws.next_pairs_are_told.Goals as goal

pub returns : goal.returns
returns c = record { next = tells_next; back = tells_next_back }
