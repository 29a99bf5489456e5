use Rattle.walks.proofs.LeastAbove.{greatest_is, least_above}
use Rattle.walks.proofs.neighbour_laws.keys_have_least_above.Goals as goal

pub returns : goal.returns
returns c = record { least = least_above; greatest = greatest_is }
