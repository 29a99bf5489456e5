use Rattle.rounds.proofs.Words.{refl}
use Rattle.round_model.specs.WriteEnds as due
use Rattle.rounds.proofs.write_round.WriteRound.tend.Goals as goal

pub returns-in-Some-clause-treats : goal.returns-in-Some-clause-treats
returns-in-Some-clause-treats g c =
    let old = c.args.self.now in
    let upkeep = c.in-Some.ensures.upkeep in
    rw c.ends_due.ensures.ends (record {
      change = due.Tend old.parent old.page c.in-Some.upkeep;
      planned = (refl, refl);
      due = record { is = refl; here = c.requires.here; fine = c.requires.fine; tended = upkeep.0; due = upkeep.1 };
    })
