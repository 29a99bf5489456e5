-- What is due where a writer's round has ended names no number that has no place, and a row can spell it.
use Rattle.op_machine.proofs.Words.{◌≡◌, Some, ap, Limits, IsAlive, Version, Unterm, Knowledge, Recalled, DueChange, IsPlanned, IsDueBy, WriteRound, IsSpellablePlan, IsTarget, Plan}
use Rattle.deltas.specs.declared.record.Merge.{Merge}
use Rattle.deltas.specs.declared.record.Record.TheVariants as kind
use Rattle.deltas.specs.declared.record.Term.{Term}
use Rattle.round_model.specs.WriteEnds as due
use Rattle.structure_changes.specs.Splits.{IsSplitPlan}
use Rattle.structure_changes.specs.declared.after.After.{After}
use Rattle.structure_changes.specs.declared.plan.Plan.TheVariants as planned
use Rattle.structure_changes.specs.declared.split.SplitPlan.{SplitPlan}
use Rattle.op_machine.proofs.Plans.{over_page, place_of, spells_base}
use Rattle.op_machine.proofs.Tending.{plans_there}

pub split_there : (limits : Limits) (k : Knowledge) (r : Recalled) (page : Version) (split : SplitPlan) → IsAlive limits k r page → IsSplitPlan page split
    → IsTarget limits (planned.Split page.pid split) × IsSpellablePlan (planned.Split page.pid split)
split_there limits k r page split alive has = (
  record { page = page.is_pid.0; pid_below = alive.in_hand.page; linked = rw has.over alive.recalled.0; head_below = rw has.over alive.in_hand.row; next_below = λ next is. cc },
  (spells_base split.upper has.stands, λ right pid. (has.fits right pid).0.spellable),
)

pub dues_there : (round : WriteRound) (k : Knowledge) (r : Recalled) (change : DueChange) (plan : Plan) (after : After) → IsPlanned change plan after
    → IsDueBy round k r change → IsTarget round.limits plan × IsSpellablePlan plan
dues_there round k r (due.Consolidate page base) plan after p d = rw p.0 (place_of round.limits k r page (kind.Base base) d.page (λ next is. cc), spells_base base d.plan.fits)
dues_there round k r (due.Split page split) plan after p d = rw p.0 (split_there round.limits k r page split d.page d.plan_due)
dues_there round k r (due.Term parent term) plan after p d = rw p.0 (over_page round.limits k r parent (kind.Term term) d.page (ap (λ (t : Term). Some t.next) d.plan.is), d.plan.fits.0.spellable)
dues_there round k r (due.Root left root) plan after p d = rw p.0 ((left.is_pid.0, d.page.in_hand.page), spells_base root d.plan.fits)
dues_there round k r (due.Tend parent page upkeep) plan after p d = rw p.0 (plans_there round.limits k r parent page upkeep d.page d.above.page d.due)
dues_there round k r (due.Merge left removed merge) plan after p d =
    rw p.0 (over_page round.limits k r left (kind.Merge merge) d.page (ap (λ (m : Merge). Some m.next) d.plan.is), d.plan.fits.0.spellable)
dues_there round k r (due.Unterm parent left removed unterm) plan after p d =
    let child : unterm.child ≡ removed.pid = ap (λ (u : Unterm). u.child) d.plan.is in
    rw p.0 (
      (
        over_page round.limits k r parent (kind.Unterm unterm) d.page (ap (λ (u : Unterm). Some u.next) d.plan.is),
        (rw child removed.is_pid.0, rw child d.gone.in_hand.page),
        removed.is_row.0,
        d.gone.in_hand.row,
      ),
      d.plan.fits.0.spellable,
    )
