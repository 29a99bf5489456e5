use Rattle.rounds.proofs.Words.{inr, refl}
use Rattle.round_model.specs.WriteEnds as due
use Rattle.rounds.proofs.write_round.WriteRound.end_unterm.Goals as goal

pub returns-in-None-clause-treats : goal.returns-in-None-clause-treats
returns-in-None-clause-treats g c =
    let self = c.args.self.now in
    let none = rw (c.page-removed.ensures, c.left.ensures, c.parent-parent.ensures) at c.in-None.ensures.plan in
    inr (inr (record { parent = self.parent; left = self.left; goal = c.requires.unterms; none = none }))

pub returns-in-Some-clause-treats : goal.returns-in-Some-clause-treats
returns-in-Some-clause-treats g c =
    let self = c.args.self.now in
    rw c.ends_due.ensures.ends (record {
      change = due.Unterm self.parent self.left self.page c.in-Some.unterm;
      planned = (
        rw (c.pid.ensures, c.head.ensures, c.head-in-Some.ensures, c.parent-parent.ensures, c.page-removed.ensures) refl,
        record
            { unlinked = c.page-unlinked.result; is = refl; rows = rw c.page-removed.ensures at c.page-unlinked.ensures.rows; of = rw c.page-removed.ensures at c.page-unlinked.ensures.pid },
      );
      due = record { is = refl; goal = c.requires.unterms; plan = rw (c.parent-parent.ensures, c.left.ensures, c.page-removed.ensures) at c.in-Some.ensures.plan };
    })
