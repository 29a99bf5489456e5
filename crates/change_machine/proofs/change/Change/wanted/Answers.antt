use Rattle.change_machine.proofs.Clearing.{may_end}
use Rattle.change_machine.proofs.Following.{base_may_place, may_decide, may_place, slot_may_empty, slot_may_set}
use Rattle.change_machine.proofs.change.Change.wanted.Goals as goal

pub returns-in-Base-clause-may : goal.returns-in-Base-clause-may
returns-in-Base-clause-may g c = λ actor k shows.
    let may = base_may_place actor c.args.self.now c.args.spares.now k (rw (← c.self.view_is) c.in-Base.is) c.requires.sound shows in
    rw (c.base_row.ensures) may

pub returns-in-Ready-clause-may : goal.returns-in-Ready-clause-may
returns-in-Ready-clause-may g c = λ actor k shows.
    let may = slot_may_set actor c.args.self.now c.args.spares.now k (rw (← c.self.view_is) c.in-Ready.is) c.requires.sound shows in
    rw (c.pid_or_0.ensures, c.base_row-in-Ready.ensures) may

pub returns-in-Undo-clause-may : goal.returns-in-Undo-clause-may
returns-in-Undo-clause-may g c = λ actor k shows.
    let may = slot_may_empty actor c.args.self.now c.args.spares.now k (rw (← c.self.view_is) c.in-Undo.is) c.requires.sound shows in
    rw (c.pid_or_0-in-Undo.ensures, c.base_row-in-Undo.ensures) may

pub returns-in-Link-clause-may : goal.returns-in-Link-clause-may
returns-in-Link-clause-may g c = λ actor k shows.
    let may = may_decide actor c.args.self.now c.args.spares.now k (rw (← c.self.view_is) c.in-Link.is) c.requires.sound (rw (← c.self.view_is) c.self.invariant.0) shows in
    rw (c.slot.ensures, c.plan.ensures, c.head.ensures, c.plan-in-Link.ensures, c.linked_number.ensures) may

pub returns-in-Clear-clause-may : goal.returns-in-Clear-clause-may
returns-in-Clear-clause-may g c = λ actor k shows.
    let may = may_end actor c.args.self.now c.args.spares.now k (rw (← c.self.view_is) c.in-Clear.is) c.requires.sound (rw (← c.self.view_is) c.self.invariant.0) shows in
    rw (c.cleared_page.ensures, c.plan-in-Clear.ensures, c.cleared_row.ensures, c.plan-in-Clear-2.ensures) may

pub returns-in-Place-clause-may : goal.returns-in-Place-clause-may
returns-in-Place-clause-may g c = λ actor k shows.
    let may = may_place actor c.args.self.now c.args.spares.now k (rw (← c.self.view_is) c.in-Place.is) c.requires.sound shows in
    rw (c.record_row.ensures) may
