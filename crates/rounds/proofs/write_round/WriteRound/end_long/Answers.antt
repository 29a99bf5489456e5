use Rattle.rounds.proofs.Words.{refl}
use Rattle.round_model.specs.WriteEnds as due
use Rattle.rounds.proofs.write_round.WriteRound.end_long.Goals as goal

pub returns-clause-treats : goal.returns-clause-treats
returns-clause-treats g c =
    let (base, plan, is) = c.plan_base.ensures.plan in
    let unlinked = c.chain-2.ensures in
    record {
      change = due.Consolidate c.args.self.now.page base;
      planned = (
        rw (← c.self.view_is) (rw c.page-page.ensures at is),
        record { unlinked = c.chain-2.result; is = refl; rows = rw (← c.self.view_is) (rw c.page-page.ensures at unlinked.rows); of = unlinked.pid },
      );
      due = record { is = refl; here = c.requires.here; long = c.requires.long; plan = rw (← c.self.view_is) (rw c.page-page.ensures at plan) };
    }
