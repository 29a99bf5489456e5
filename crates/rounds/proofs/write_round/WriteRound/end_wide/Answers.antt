use Rattle.rounds.proofs.Words.{refl, ap, ◌∙◌}
use Rattle.round_model.specs.WriteEnds as due
use Rattle.structure_changes.specs.declared.after.After.TheVariants.{Errand}
use Rattle.rounds.proofs.write_round.WriteRound.end_wide.Goals as goal

pub returns-clause-treats : goal.returns-clause-treats
returns-clause-treats g c =
    let page = c.args.self.now.page in
    let plan = c.in-Some.plan in
    rw c.ends_due.ensures.ends (record {
      change = due.Split page plan;
      planned = (rw (c.pid-pid.ensures, c.page-page.ensures) refl, ap Errand (c.copied-separator.ensures ∙ c.low.ensures));
      due = record { is = refl; here = c.requires.here; short = c.requires.short; plan_due = rw c.page-page.ensures at c.in-Some.ensures.plan };
    })
