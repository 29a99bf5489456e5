use Rattle.map_laws.proofs.Fitting.{called_fits, last_fits, resumed_fits}
use Rattle.map_laws.proofs.call_laws.seats_replies_fit.Goals as goal

pub returns : goal.returns
returns c = record { last = last_fits; called = called_fits; resumed = resumed_fits }
