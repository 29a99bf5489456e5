use Rattle.rounds.proofs.Words.{inl, inr, refl, ap, ◌∙◌, Version}
use Rattle.deltas.specs.declared.record.Record.TheVariants as kind
use Rattle.round_model.specs.WriteEnds as due
use Rattle.structure_changes.specs.Plans.{over}
use Rattle.rounds.proofs.write_round.WriteRound.end_merge.Goals as goal

pub returns-in-None-clause-treats : goal.returns-in-None-clause-treats
returns-in-None-clause-treats g c =
    inr (inl (record { left = c.args.self.now.left; goal = c.requires.merges; none = rw (c.page.ensures, c.left-left.ensures) at c.in-None.ensures.plan }))

pub returns-in-Some-clause-treats : goal.returns-in-Some-clause-treats
returns-in-Some-clause-treats g c =
    let self = c.args.self.now in
    rw c.ends_due.ensures.ends (record {
      change = due.Merge self.left self.page c.in-Some.merge;
      planned = (c.over-plan.ensures ∙ ap (λ (left : Version). over left (kind.Merge c.in-Some.merge)) c.left-left.ensures, refl);
      due = record { is = refl; goal = c.requires.merges; plan = rw (c.left-left.ensures, c.page.ensures) at c.in-Some.ensures.plan };
    })
