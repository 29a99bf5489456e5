use Rattle.op_machine.proofs.Words.{◌≡◌, ap, refl, OpPlaces, ended_with}
use Rattle.op_machine.specs.machine.Outcomes.{Changed, change_out}
use Rattle.op_machine.proofs.Going.{follows, goes_on, told_change}
use Rattle.op_machine.proofs.ChangeSteps.{change_ends, change_goes_on, is_change, writes_change}
use Rattle.op_machine.proofs.operation.Operation.change_on.Goals as goal

pub ended-requires-clause-told : goal.ended-requires-clause-told
ended-requires-clause-told g c = told_change _ _ _ (rw (← c.self.view_is) at c.requires.told)

pub returns-in-Some-clause-asks : goal.returns-in-Some-clause-asks
returns-in-Some-clause-asks g c =
    let told = rw (← c.self.view_is) at c.requires.told in
    let spares = c.ended.new.hand.spares in
    let then = c.self.inside.places.then in
    let then_is : c.ended.new.places.then ≡ then = ap (λ (p : OpPlaces). p.then) c.ended.ensures.only in
    let ends = c.end_changing.ensures in
    let stand = is_change c.self.inside.places (rw (← c.self.view_is) at c.requires.changing) in
    rw (← c.self.view_is) (follows _ _ _ _ told.told_on _ _ c.ended.ensures.makes (Changed c.in-Some.end then) (ap (λ o. change_out (ended_with then o)) c.in-Some.is) _
    (record { stands = rw then_is at (ends.stands spares); few = λ k r faced. rw then_is at (ends.few spares r); asks = ends.asks spares; same = ends.same; sweep = refl })
    (change_ends c.self.inside.places c.ended.new.places _ c.self.inside.task stand c.in-Some.end _ (rw c.in-Some.is at c.ended.ensures.decides)
    (ends.goes (writes_change c.self.inside.places c.self.inside.task stand _ _ _ told.told_on.works))))

pub returns-in-Some-clause-keeps : goal.returns-in-Some-clause-keeps
returns-in-Some-clause-keeps g c k r h f kept =
    rw (← c.self.view_is) (c.ended.ensures.keeps c.self.inside.task k r (rw (← c.self.view_is) at h) (rw (← c.self.view_is) at f) (rw (← c.self.view_is) at kept))

pub returns-in_default-clause-asks : goal.returns-in_default-clause-asks
returns-in_default-clause-asks g c =
    let told = rw (← c.self.view_is) at c.requires.told in
    rw (← c.self.view_is) (goes_on _ _ _ _ told.told_on _ _ c.ended.ensures.makes (ap (λ o. change_out (ended_with c.self.inside.places.then o)) c.in_default.is)
    (change_goes_on c.self.inside.places c.ended.new.places _ c.self.inside.task
    (is_change c.self.inside.places (rw (← c.self.view_is) at c.requires.changing)) c.ended.ensures.only c.ended.ensures.plan
    (rw c.in_default.is at c.ended.ensures.decides)))

pub returns-in_default-clause-keeps : goal.returns-in_default-clause-keeps
returns-in_default-clause-keeps g c k r h f kept =
    rw (← c.self.view_is) (c.ended.ensures.keeps c.self.inside.task k r (rw (← c.self.view_is) at h) (rw (← c.self.view_is) at f) (rw (← c.self.view_is) at kept))
