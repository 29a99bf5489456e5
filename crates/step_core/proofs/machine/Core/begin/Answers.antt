use Rattle.std.proofs.Common.{ap, arith, refl, sym, subst}
use Rattle.traces.specs.discipline.Knowledge.{knows}
use Rattle.traces.specs.discipline.Recalled.{recalls}
use Rattle.traces.specs.declared.trace.Entry.TheVariants.{Begin}
use Rattle.step_core.proofs.Cored.{begin_goes, core_begins, core_begun, core_others, idle_outside}
use Rattle.step_core.specs.declared.event.RunError.TheVariants.{Memory}
use Rattle.step_core.proofs.Reserving.{granted, refused}
use Rattle.step_core.proofs.machine.Core.begin.Goals as goal
use Rattle.step_core.specs.Cores.{IsCore}

pub invariant_of-self-2 : goal.invariant_of-self-2
invariant_of-self-2 g c =
    let begins = core_begins _ _ _ _ _ _ _ c.args.command c.self.invariant _ _ c.self.view_is c.requires.goes c.from.ensures c.index_mut-place.ensures.value in
    core_begun _ c.begins_keep_laws.ensures.state c.begins_keep_laws.ensures.paid c.begins_keep_laws.ensures.readers c.begins_keep_laws.ensures.writers _ _ _ _ _ _ _ c.args.command
    c.self.invariant _ _ c.self.view_is c.requires.goes c.from.ensures (idle_outside _ _ _ _ c.index_mut-place.result.now begins.1 begins.2)
    (c.begin.ensures.shows _ _ begins.1) c.begin.ensures.command (c.entries_grow.ensures _ c.self.inside.trace.items (Begin c.args.actor c.args.command))
    (c.begins_keep_laws.ensures.direct _ _ _ _ _ c.self.invariant.direct (let few = c.begin.ensures.bounded in omega arith)) (rw c.reserve.ensures.items at c.push_begin.ensures.items)

pub returns-clause-ok : goal.returns-clause-ok
returns-clause-ok g c = record {
  added = Begin c.args.actor c.args.command;
  entries = rw (← c.self.view_is) (rw c.reserve.ensures.items at c.push_begin.ensures.items);
  of_turn = refl;
  wanted = tt;
  others = core_others _ _ _ _ _ _ _ _ c.self.view_is c.from.ensures;
  room = rw (← c.self.view_is) (let grown = c.reserve.ensures.room in let kept = c.push_begin.ensures.room in omega (arith, grown, kept));
  told = tt;
  event_of = refl;
  same_limits = rw (← c.self.view_is) refl;
}

pub begin-requires-clause-shows : goal.begin-requires-clause-shows
begin-requires-clause-shows g c =
    let begins = core_begins _ _ _ _ _ _ _ c.args.command c.self.invariant _ _ c.self.view_is c.requires.goes c.from.ensures c.index_mut-place.ensures.value in
    (knows c.self.inside.trace.items c.args.actor, recalls c.self.inside.trace.items c.args.actor, begins.1)

pub begin-requires-clause-idle : goal.begin-requires-clause-idle
begin-requires-clause-idle g c =
    let begins = core_begins _ _ _ _ _ _ _ c.args.command c.self.invariant _ _ c.self.view_is c.requires.goes c.from.ensures c.index_mut-place.ensures.value in
    begins.2

pub begin-requires-clause-there : goal.begin-requires-clause-there
begin-requires-clause-there g c =
    let begins = core_begins _ _ _ _ _ _ _ c.args.command c.self.invariant _ _ c.self.view_is c.requires.goes c.from.ensures c.index_mut-place.ensures.value in
    begins.3

pub returns-then-is_err-clause-memory : goal.returns-then-is_err-clause-memory
returns-then-is_err-clause-memory g c =
    (ap Memory c.turns-number.ensures, rw (← c.self.view_is) (refused c.reserve.result _ c.is_err.result c.is_err.ensures.value c.if-is_err.true c.reserve.ensures.full))

pub returns-then-is_err-clause-err : goal.returns-then-is_err-clause-err
returns-then-is_err-clause-err g c = rw (refused c.reserve.result _ c.is_err.result c.is_err.ensures.value c.if-is_err.true c.reserve.ensures.err) c.self.view_is

pub index_mut-place-requires : goal.index_mut-place-requires
index_mut-place-requires g c =
    let there = (rw (← c.self.view_is) at (begin_goes c.args.self.now c.args.actor c.args.command c.requires.goes)).0 in
    omega (arith, c.from.ensures, there, c.self.invariant.count, c.self.inside.actors.ok.0)

pub push_begin-requires : goal.push_begin-requires
push_begin-requires g c = granted c.reserve.result _ c.is_err.result c.is_err.ensures.value c.if-is_err.false c.reserve.ensures.ok

pub invariant_of-self : goal.invariant_of-self
invariant_of-self g c = subst (IsCore c.self.inside.limits c.self.inside.memory c.self.inside.actors.items) (sym c.reserve.ensures.items) c.self.invariant
