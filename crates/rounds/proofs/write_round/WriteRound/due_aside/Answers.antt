use Rattle.rounds.proofs.Words.{◌≡◌, ℕ, Some, None, refl, sym, ap, ◌∙◌, Version}
use Rattle.std.specs.Prelude.{Bool}
use Rattle.deltas.specs.declared.record.Record.TheVariants as kind
use Rattle.round_model.specs.WriteEnds as due
use Rattle.structure_changes.specs.Plans.{over}
use Rattle.structure_changes.specs.declared.plan.Plan.TheVariants as plan
use Rattle.rounds.specs.Courses.{kept_if}
use Rattle.rounds.proofs.write_round.WriteRound.due_aside.Goals as goal

pub returns-in-Some-clause-plan : goal.returns-in-Some-clause-plan
returns-in-Some-clause-plan g c =
    let old = c.args.self.now in
    let kept : kept_if c.has_parent.result old.parent ≡ old.round.parent = rw (← c.self.view_is) c.has_parent.ensures in
    let above : old.round.parent ≡ Some old.parent = sym kept ∙ ap (λ (b : Bool). kept_if b old.parent) c.if-has_parent.true in
    record {
      change = due.Term old.parent c.in-Some.term;
      planned = (c.over.ensures ∙ ap (λ (parent : Version). over parent (kind.Term c.in-Some.term)) c.parent-parent.ensures, refl);
      due = record { seeks = c.requires.seeks; above = above; left = old.left; aside = c.requires.left; plan = rw (c.parent-parent.ensures, c.page.ensures) at c.in-Some.ensures.plan };
    }

pub returns-in-Some-plan_root-clause-plan : goal.returns-in-Some-plan_root-clause-plan
returns-in-Some-plan_root-clause-plan g c =
    let old = c.args.self.now in
    let kept : kept_if c.has_parent.result old.parent ≡ old.round.parent = rw (← c.self.view_is) c.has_parent.ensures in
    let above : old.round.parent ≡ None = sym kept ∙ ap (λ (b : Bool). kept_if b old.parent) c.if-has_parent.false in
    record {
      change = due.Root old.left c.in-Some-plan_root.root;
      planned = (ap (λ (pid : ℕ). plan.Root pid c.in-Some-plan_root.root) (c.pid.ensures ∙ ap (λ (left : Version). left.pid) c.left-left.ensures), refl);
      due = record { seeks = c.requires.seeks; above = above; aside = c.requires.left; plan = rw (c.left-left.ensures, c.page-2.ensures) at c.in-Some-plan_root.ensures.plan };
    }
