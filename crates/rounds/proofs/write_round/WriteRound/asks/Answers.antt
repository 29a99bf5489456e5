use Rattle.rounds.proofs.write_round.WriteRound.asks.Goals as goal

pub returns-clause-wanted : goal.returns-clause-wanted
returns-clause-wanted g c = rw (← c.self.view_is) c.asks.ensures.wanted

pub returns-clause-within : goal.returns-clause-within
returns-clause-within g c = rw (← c.self.view_is) c.asks.ensures.within
