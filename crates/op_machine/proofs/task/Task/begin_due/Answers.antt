use Rattle.op_machine.proofs.Words.{◌≡◌, Some, refl, sym, ap, ◌∙◌, Unterm, IsChainFrom-unique, DueChange, IsPlanned, IsDueBy, Plan, Brings, IsReadPlan, IsUsefulPlan}
use Rattle.op_machine.proofs.Words.{MayBegin}
use Rattle.traces.specs.discipline.Recalled.{WasHead}
use Rattle.round_model.specs.WriteEnds as due
use Rattle.change_machine.specs.Changes.{KeepsSpare, MayLinkAs}
use Rattle.structure_changes.specs.Plans.{head_of, slot_of}
use Rattle.structure_changes.specs.declared.after.After.{After}
use Rattle.op_parts.specs.declared.then.Then.TheVariants as then
use Rattle.op_machine.proofs.Dues.{dues_there}
use Rattle.op_machine.proofs.Halves.{halves}
use Rattle.op_machine.proofs.Plans.{long_chain}
use Rattle.op_machine.proofs.Tending.{may_tend_on_way}
use Rattle.op_machine.proofs.Unlinking.{keeps_spare}
use Rattle.op_machine.proofs.task.Task.begin_due.Goals as goal

pub begin_due-requires : goal.begin_due-requires
begin_due-requires g c =
    let (k, r, h) = c.requires.faced in
    let writer = c.args.places.now.writer in
    let there = rw h.round_of.limits at (dues_there h.round k r h.ends.change writer.plan writer.after h.ends.planned h.ends.due) in
    record { target = there.0; spells = there.1; room = h.seeks.spare.room }

pub returns-clause-stands : goal.returns-clause-stands
returns-clause-stands g c k r h = c.begin_due.ensures.begun.stands k r (by_change h.ends.change h.ends.planned h.ends.due)
  where
    begins : (plan : Plan) (after : After) → MayLinkAs c.args.self.now.actor k plan → KeepsSpare plan c.args.spares.now.pid
        → Brings k c.args.self.now.command plan (then.After after) → IsUsefulPlan k plan → IsReadPlan k plan → WasHead r (slot_of plan) (head_of plan)
        → MayBegin c.args.self.now c.args.spares.now k r plan (then.After after)
    begins plan after links keeps brings useful split recalled = record
        { seeks = h.seeks; writer = h.writer; may = record { inside = h.seeks.inside; links = links }; keeps = keeps; brings = brings; useful = useful; split = split; recalled = recalled }

    by_change : (change : DueChange) → IsPlanned change c.args.places.now.writer.plan c.args.places.now.writer.after → IsDueBy h.round k r change
        → MayBegin c.args.self.now c.args.spares.now k r c.args.places.now.writer.plan (then.After c.args.places.now.writer.after)
    by_change (due.Consolidate page base) p d =
        let seen = d.page.in_hand.seen in
        rw (p.0, p.1.is) (begins _ _ (c.plans_may_be_linked.ensures.base c.args.self.now.actor k page base seen d.page.alive d.plan.may d.plan.fits) tt
        (record { chain = page.chain; read = seen.read; short = d.page.in_hand.sound.is_chain.short; are = p.1.rows }, p.1.of)
        (λ chain read. rw (← (IsChainFrom-unique k.read.seen page.head page.chain chain seen.read read)) (long_chain h.round k r page base h.round_of.some d)) tt d.page.recalled)
    by_change (due.Split page split) p d =
        let plan = d.plan_due in
        let seen = d.page.in_hand.seen in
        rw (p.0, p.1) (begins _ _ (c.plans_may_be_linked.ensures.split c.args.self.now.actor k page split seen plan) tt (page.pid, split, refl, refl)
        (λ chain read. rw (← (IsChainFrom-unique k.read.seen page.head page.chain chain seen.read (rw plan.over at read))) (halves page split plan d.page.in_hand.sound.is_chain.fitted))
        (rw plan.over seen.head) (rw plan.over d.page.recalled))
    by_change (due.Term parent term) p d =
        rw (p.0, p.1) (begins _ _
        (c.plans_may_be_linked.ensures.term c.args.self.now.actor k parent d.child term d.page.in_hand.seen d.page.alive d.plan d.below.in_hand.seen d.after)
        tt (tt, tt, refl, tt) tt tt d.page.recalled)
    by_change (due.Root left root) p d =
        rw (p.0, p.1)
        (begins _ _ (c.plans_may_be_linked.ensures.root c.args.self.now.actor k left d.right root d.page.in_hand.seen d.page.in_hand.sound.is_chain d.plan) tt (tt, tt, refl, tt) tt tt d.rooted)
    by_change (due.Tend parent page upkeep) p d =
        rw (p.0, p.1)
        (may_tend_on_way c.args.self.now c.args.spares.now k r c.plans_may_be_linked.ensures.hold c.plans_may_be_linked.ensures.remove h.round parent page upkeep h.seeks h.writer h.round_of d)
    by_change (due.Merge left removed merge) p d =
        rw (p.0, p.1)
        (begins _ _ (c.plans_may_be_linked.ensures.merge c.args.self.now.actor k left removed merge d.page.in_hand.seen d.plan d.gone.in_hand.seen) tt (tt, tt, refl, tt) tt tt d.page.recalled)
    by_change (due.Unterm parent left removed unterm) p d =
        let child : unterm.child ≡ removed.pid = ap (λ (u : Unterm). u.child) d.plan.is in
        let seen = d.gone.in_hand.seen in
        rw (p.0, p.1.is) (begins _ _ (c.plans_may_be_linked.ensures.unlink c.args.self.now.actor k parent left removed unterm d.page.in_hand.seen d.page.alive
        d.page.in_hand.sound.is_chain d.up d.plan d.aside.in_hand.seen d.after seen)
        (keeps_spare c.args.self.now c.args.spares.now k parent left removed unterm h.seeks d.plan seen)
        (record { chain = removed.chain; read = seen.read; short = d.gone.in_hand.sound.is_chain.short; are = p.1.rows }, p.1.of ∙ ap Some (sym child)) tt tt d.page.recalled)

pub returns-clause-few : goal.returns-clause-few
returns-clause-few g c = c.begin_due.ensures.begun.few

pub returns-clause-asks : goal.returns-clause-asks
returns-clause-asks g c = c.begin_due.ensures.begun.asks

pub returns-clause-have : goal.returns-clause-have
returns-clause-have g c = record { reader = rw c.begin_due.ensures.reader c.requires.have.reader; writer = rw c.begin_due.ensures.writer c.requires.have.writer }

pub returns-clause-goes : goal.returns-clause-goes
returns-clause-goes g c = c.begin_due.ensures.begun.begins
