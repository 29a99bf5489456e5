use Rattle.rounds.proofs.Words.{inl, refl}
use Rattle.rounds.proofs.write_round.WriteRound.decide.Goals as goal

pub settle_inside-requires-clause-here : goal.settle_inside-requires-clause-here
settle_inside-requires-clause-here g c =
    record { seeks = c.requires.seeks; alive = c.requires.alive; finished = c.requires.finished; stays = c.in-Some.ensures.leads.1 }

pub returns-in-Some-clause-treats : goal.returns-in-Some-clause-treats
returns-in-Some-clause-treats g c = c.settle_inside.ensures.treats

pub returns-in-Some-clause-same : goal.returns-in-Some-clause-same
returns-in-Some-clause-same g c = c.settle_inside.ensures.same

pub settle-requires-clause-here : goal.settle-requires-clause-here
settle-requires-clause-here g c = record { seeks = c.requires.seeks; alive = c.requires.alive; finished = c.requires.finished; stays = c.in-None.ensures.aside }

pub returns-in-None-clause-treats : goal.returns-in-None-clause-treats
returns-in-None-clause-treats g c = c.settle.ensures.treats

pub returns-in-None-clause-same : goal.returns-in-None-clause-same
returns-in-None-clause-same g c = c.settle.ensures.same

pub returns-in-Some-next_aside-clause-treats : goal.returns-in-Some-next_aside-clause-treats
returns-in-Some-next_aside-clause-treats g c =
    inl (record {
      seeks = c.requires.seeks;
      alive = c.requires.alive;
      finished = c.requires.finished;
      right = c.in-Some-next_aside.right;
      leads = c.in-Some-next_aside.ensures.aside;
      goes = rw (← c.self.view_is, c.go_to.ensures, c.keep_left.ensures.kept, c.keep_left.ensures.way) refl;
    })
