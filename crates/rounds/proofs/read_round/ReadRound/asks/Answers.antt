use Rattle.round_model.proofs.Reading.{way_shows}
use Rattle.rounds.proofs.read_round.ReadRound.asks.Goals as goal

pub returns-clause-wanted : goal.returns-clause-wanted
returns-clause-wanted g c = rw (← c.self.view_is) c.asks.ensures.wanted

pub returns-clause-within : goal.returns-clause-within
returns-clause-within g c = rw (← c.self.view_is) c.asks.ensures.within

pub returns-clause-may : goal.returns-clause-may
returns-clause-may g c actor k r h = c.asks.ensures.may actor k (way_shows _ k r (rw (← c.self.view_is) at h))
