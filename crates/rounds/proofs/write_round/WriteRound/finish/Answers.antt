use Rattle.rounds.proofs.write_round.WriteRound.finish.Goals as goal

pub returns-in-Some-clause-treats : goal.returns-in-Some-clause-treats
returns-in-Some-clause-treats g c = rw c.ends_due.ensures.ends c.in-Some.ensures.plan

pub returns-in-None-clause-treats : goal.returns-in-None-clause-treats
returns-in-None-clause-treats g c = c.decide.ensures.treats

pub returns-in-None-clause-same : goal.returns-in-None-clause-same
returns-in-None-clause-same g c = c.decide.ensures.same
