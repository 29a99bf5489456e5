use Rattle.rounds.proofs.read_round.ReadRound.treat.Goals as goal

pub returns-then-is_round-clause-treats : goal.returns-then-is_round-clause-treats
returns-then-is_round-clause-treats g c = c.come_nearer.ensures.treats

pub returns-then-is_round-clause-same : goal.returns-then-is_round-clause-same
returns-then-is_round-clause-same g c = c.come_nearer.ensures.same

pub returns-then-is_removed-clause-treats : goal.returns-then-is_removed-clause-treats
returns-then-is_removed-clause-treats g c = c.meet_removed.ensures.treats

pub returns-then-is_removed-clause-same : goal.returns-then-is_removed-clause-same
returns-then-is_removed-clause-same g c = c.meet_removed.ensures.same

pub returns-clause-treats : goal.returns-clause-treats
returns-clause-treats g c = c.go_on.ensures.treats

pub returns-clause-same : goal.returns-clause-same
returns-clause-same g c = c.go_on.ensures.same
