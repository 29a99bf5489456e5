use Rattle.std.proofs.Common.{◌≡◌, None, Some, ap, inl, refl, sym, subst, ◌∙◌, arith}
use Rattle.op_machine.specs.machine.Actors.{Actor, wanted_by}
use Rattle.traces.specs.trace.Steps.{memory_after}
use Rattle.traces.specs.discipline.Knowledge.{knows}
use Rattle.traces.specs.discipline.Recalled.{recalls}
use Rattle.traces.specs.declared.trace.Entry.TheVariants.{Step}
use Rattle.step_core.proofs.Cored.{core_affords, core_asks, core_leaves, core_others, core_shown, core_stepped, core_took, core_wanted, core_wants, step_goes}
use Rattle.step_core.proofs.Lawful.{heads}
use Rattle.step_core.proofs.Linked.{event_is, told_to}
use Rattle.step_core.proofs.Replaced.{get_same}
use Rattle.step_core.proofs.Reserving.{granted, refused}
use Rattle.step_core.proofs.machine.Core.go_on.Goals as goal
use Rattle.step_core.specs.Cores.{IsCore}
use Rattle.step_core.specs.declared.event.Event.TheVariants.{Stepped}
use Rattle.step_core.specs.declared.event.RunError.TheVariants.{Memory}

pub invariant_of-self-2 : goal.invariant_of-self-2
invariant_of-self-2 g c =
    let asks = core_asks _ c.steps_keep_laws.ensures.apart c.steps_keep_laws.ensures.fit _ _ _ _ _ _ c.self.invariant _ _ c.self.view_is c.requires.goes
    c.from-2.ensures c.index_mut-place.ensures.value in
    let goes = c.go_on-stepped.ensures.goes _ _ _ asks.2 in
    let took = core_took _ c.steps_keep_laws.ensures.apart _ _ _ _ c.go_on-stepped.result.step c.go_on-stepped.result.answer c.self.invariant c.go_on-stepped.ensures.answer goes.allowed.may in
    let affords = core_affords _ _ _ _ _ _ _ c.self.invariant c.from-2.ensures asks.1 c.index_mut-place.ensures.value in
    let stays = c.steps_keep_laws.ensures.direct _ _ _ _ _ _ _ _ c.self.invariant.state goes.allowed goes.useful took.1 c.self.invariant.direct affords goes.spends goes.few in
    core_stepped _ c.steps_keep_laws.ensures.state c.steps_keep_laws.ensures.paid c.steps_keep_laws.ensures.readers c.steps_keep_laws.ensures.writers _ _ _ _ _ _ _ _ _
    c.go_on-stepped.result.step c.go_on-stepped.result.answer None c.self.invariant c.from-2.ensures asks.1
    c.index_mut-place.ensures.value asks.3 c.go_on-stepped.ensures.wanted goes c.go_on-stepped.ensures.command
    (c.entries_grow.ensures _ c.self.inside.trace.items (Step c.args.actor c.go_on-stepped.result.step c.go_on-stepped.result.answer None)) stays
    c.go_on-stepped.ensures.limits took.1 c.go_on-stepped.ensures.memory (rw c.reserve.ensures.items at c.push_step.ensures.items)

pub returns-clause-ok : goal.returns-clause-ok
returns-clause-ok g c =
    let asks = core_asks _ c.steps_keep_laws.ensures.apart c.steps_keep_laws.ensures.fit _ _ _ _ _ _ c.self.invariant _ _ c.self.view_is c.requires.goes
    c.from-2.ensures c.index_mut-place.ensures.value in
    let goes = c.go_on-stepped.ensures.goes _ _ _ asks.2 in
    let took = core_took _ c.steps_keep_laws.ensures.apart _ _ _ _ c.go_on-stepped.result.step c.go_on-stepped.result.answer c.self.invariant c.go_on-stepped.ensures.answer goes.allowed.may in
    record {
      added = Step c.args.actor c.go_on-stepped.result.step c.go_on-stepped.result.answer None;
      entries = rw (← c.self.view_is) (rw c.reserve.ensures.items at c.push_step.ensures.items);
      of_turn = refl;
      wanted = (core_wanted _ _ _ _ _ _ _ _ c.self.invariant _ c.self.view_is c.requires.goes c.from-2.ensures c.index_mut-place.ensures.value).1 ∙ ap Some c.go_on-stepped.ensures.wanted;
      others = core_others _ _ _ _ _ _ _ _ c.self.view_is c.from-2.ensures;
      room = rw (← c.self.view_is) (let grown = c.reserve.ensures.room in let kept = c.push_step.ensures.room in omega (arith, grown, kept));
      told = rw (← c.self.view_is) took.1;
      event_of =
          told_to _ _ (Step c.args.actor c.go_on-stepped.result.step c.go_on-stepped.result.answer None) (Stepped c.link-link.result) c.self.view_is (event_is _
          _ c.args.actor _ _ None _ (c.go_on-stepped.ensures.memory ∙ ap (memory_after c.args.actor c.go_on-stepped.result.step) c.self.invariant.has)
          (heads _ _ c.self.invariant.state c.steps_keep_laws.ensures.heads) took.0 took.1 (ap Stepped c.link-link.ensures));
      same_limits = rw (← c.self.view_is) refl;
    }

pub go_on-stepped-requires-clause-knows : goal.go_on-stepped-requires-clause-knows
go_on-stepped-requires-clause-knows g c =
    let asks = core_asks _ c.steps_keep_laws.ensures.apart c.steps_keep_laws.ensures.fit _ _ _ _ _ _ c.self.invariant _ _ c.self.view_is c.requires.goes
    c.from-2.ensures c.index_mut-place.ensures.value in
    (c.self.inside.limits, knows c.self.inside.trace.items c.args.actor, recalls c.self.inside.trace.items c.args.actor, asks.2)

pub go_on-stepped-requires-clause-within : goal.go_on-stepped-requires-clause-within
go_on-stepped-requires-clause-within g c =
    (core_asks _ c.steps_keep_laws.ensures.apart c.steps_keep_laws.ensures.fit _ _ _ _ _ _ c.self.invariant _ _ c.self.view_is c.requires.goes c.from-2.ensures c.index_mut-place.ensures.value).4

pub prepare-requires-clause-shown : goal.prepare-requires-clause-shown
prepare-requires-clause-shown g c =
    (core_shown _ _ _ _ _ _ _ c.self.invariant _ _ c.self.view_is c.requires.goes c.from.ensures c.index-place.ensures).0

pub prepare-requires-clause-running : goal.prepare-requires-clause-running
prepare-requires-clause-running g c =
    (core_asks _ c.steps_keep_laws.ensures.apart c.steps_keep_laws.ensures.fit _ _ _ _ _ _ c.self.invariant _ _ c.self.view_is c.requires.goes c.from.ensures c.index-place.ensures).3

pub prepare-requires-clause-within : goal.prepare-requires-clause-within
prepare-requires-clause-within g c =
    (core_asks _ c.steps_keep_laws.ensures.apart c.steps_keep_laws.ensures.fit _ _ _ _ _ _ c.self.invariant _ _ c.self.view_is c.requires.goes c.from.ensures c.index-place.ensures).4

pub returns-in_default-clause-memory : goal.returns-in_default-clause-memory
returns-in_default-clause-memory g c =
    (ap Memory c.turns-number.ensures, core_wants _ _ _ _ _ _ _ _ c.self.invariant _ c.self.view_is c.requires.goes c.from.ensures c.index-place.ensures c.in_default.ensures.err)

pub returns-then-is_err-clause-memory : goal.returns-then-is_err-clause-memory
returns-then-is_err-clause-memory g c =
    (ap Memory c.turns-number.ensures, inl (rw (← c.self.view_is) (refused c.reserve.result _ c.is_err.result c.is_err.ensures.value c.if-is_err.true c.reserve.ensures.full)))

pub returns-then-is_err-clause-err : goal.returns-then-is_err-clause-err
returns-then-is_err-clause-err g c = rw (refused c.reserve.result _ c.is_err.result c.is_err.ensures.value c.if-is_err.true c.reserve.ensures.err) c.self.view_is

pub push_step-requires : goal.push_step-requires
push_step-requires g c = granted c.reserve.result _ c.is_err.result c.is_err.ensures.value c.if-is_err.false c.reserve.ensures.ok

pub index-place-requires : goal.index-place-requires
index-place-requires g c =
    let there = (rw (← c.self.view_is) at (step_goes c.args.self.now c.args.actor c.requires.goes)).0 in
    omega (arith, c.from.ensures, there, c.self.invariant.count, c.self.inside.actors.ok.0)

pub go_on-stepped-requires-clause-running : goal.go_on-stepped-requires-clause-running
go_on-stepped-requires-clause-running g c =
    (core_asks _ c.steps_keep_laws.ensures.apart c.steps_keep_laws.ensures.fit _ _ _ _ _ _ c.self.invariant _ _ c.self.view_is c.requires.goes c.from-2.ensures c.index_mut-place.ensures.value).3

pub go_on-stepped-requires-clause-stays : goal.go_on-stepped-requires-clause-stays
go_on-stepped-requires-clause-stays g c = λ leaves.
    c.requires.stays (core_leaves _ _ _ _ _ _ c.index_mut-place.result.now _ c.self.invariant _ c.self.view_is c.requires.goes c.from-2.ensures c.index_mut-place.ensures.value leaves)

pub go_on-stepped-requires-clause-wanted : goal.go_on-stepped-requires-clause-wanted
go_on-stepped-requires-clause-wanted g c =
    let there = (rw (← c.self.view_is) at (step_goes c.args.self.now c.args.actor c.requires.goes)).0 in
    let same = get_same c.self.inside.actors.items c.from.result c.from-2.result c.index-place.result.now c.index_mut-place.result.now
    (c.from.ensures ∙ sym c.from-2.ensures) (omega (arith, there, c.from.ensures, c.self.invariant.count)) c.index-place.ensures
    c.index_mut-place.ensures.value in
    subst (λ (at : Actor). wanted_by at.running ≡ Some c.in-Ok.ready.step) same c.in-Ok.ensures.wanted

pub invariant_of-self : goal.invariant_of-self
invariant_of-self g c = subst (IsCore c.self.inside.limits c.self.inside.memory c.self.inside.actors.items) (sym c.reserve.ensures.items) c.self.invariant

pub index_mut-place-requires : goal.index_mut-place-requires
index_mut-place-requires g c =
    let there = (rw (← c.self.view_is) at (step_goes c.args.self.now c.args.actor c.requires.goes)).0 in
    omega (arith, c.from-2.ensures, there, c.self.invariant.count, c.self.inside.actors.ok.0)
