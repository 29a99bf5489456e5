use Rattle.map_laws.proofs.OneSeat.{one_actor}
use Rattle.map_laws.proofs.key_laws.one_seat.Goals as goal

pub returns : goal.returns
returns c = one_actor
