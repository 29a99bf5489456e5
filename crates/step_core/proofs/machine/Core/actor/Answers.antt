use Rattle.std.proofs.Common.{◌≡◌, ◌<◌, ◌∙◌, length, sym}
use Rattle.std.proofs.lemmas.Bool.{ltb-true}
use Rattle.std.specs.Prelude.{slice_get, Some}
use Rattle.step_core.proofs.Cored.{core_seen, core_there, core_next}
use Rattle.step_core.proofs.Replaced.{get_is}
use Rattle.step_core.proofs.machine.Core.actor.Goals as goal

pub returns-in-None-clause-there : goal.returns-in-None-clause-there
returns-in-None-clause-there g c =
    (rw (c.deref.ensures.value, c.from.ensures) at c.in-None.ensures.lookup.0) ∙ core_there _ _ _ _ c.args.number c.self.invariant _ _ c.self.view_is

pub returns-in-Some-clause-there : goal.returns-in-Some-clause-there
returns-in-Some-clause-there g c =
    (rw (c.deref.ensures.value, c.from.ensures) at c.in-Some.ensures.lookup.0) ∙ core_there _ _ _ _ c.args.number c.self.invariant _ _ c.self.view_is

pub returns-in-Some-clause-keeps : goal.returns-in-Some-clause-keeps
returns-in-Some-clause-keeps g c =
    let lookup = c.in-Some.ensures.lookup in
    let within : c.from.result < length c.deref.result.now = ltb-true _ _ (sym lookup.0) in
    let found : slice_get c.deref.result.now c.from.result ≡ Some c.in-Some.actor.now = get_is _ _ _ within lookup.1 in
    (core_seen _ _ _ _ c.args.number c.in-Some.actor.now c.self.invariant _ _ c.self.view_is (rw (c.deref.ensures.value, c.from.ensures) at found)).0

pub returns-in-Some-clause-command : goal.returns-in-Some-clause-command
returns-in-Some-clause-command g c =
    let lookup = c.in-Some.ensures.lookup in
    let within : c.from.result < length c.deref.result.now = ltb-true _ _ (sym lookup.0) in
    let found : slice_get c.deref.result.now c.from.result ≡ Some c.in-Some.actor.now = get_is _ _ _ within lookup.1 in
    (core_seen _ _ _ _ c.args.number c.in-Some.actor.now c.self.invariant _ _ c.self.view_is (rw (c.deref.ensures.value, c.from.ensures) at found)).1

pub returns-in-Some-clause-wanted : goal.returns-in-Some-clause-wanted
returns-in-Some-clause-wanted g c =
    let lookup = c.in-Some.ensures.lookup in
    let within : c.from.result < length c.deref.result.now = ltb-true _ _ (sym lookup.0) in
    let found : slice_get c.deref.result.now c.from.result ≡ Some c.in-Some.actor.now = get_is _ _ _ within lookup.1 in
    core_next _ _ _ c.args.number c.in-Some.actor.now _ _ c.self.view_is (rw (c.deref.ensures.value, c.from.ensures) at found)
