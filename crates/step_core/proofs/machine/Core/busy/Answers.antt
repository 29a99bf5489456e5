use Rattle.std.proofs.Common.{◌≡◌, ◌<◌, length, sym}
use Rattle.std.proofs.lemmas.Bool.{ltb-true}
use Rattle.std.specs.Prelude.{slice_get, Some}
use Rattle.step_core.proofs.Cored.{core_busy, core_missing}
use Rattle.step_core.proofs.Replaced.{get_is}
use Rattle.step_core.proofs.machine.Core.busy.Goals as goal

pub returns-in-None : goal.returns-in-None
returns-in-None g c = core_missing _ _ _ _ c.args.actor c.self.invariant _ _ c.self.view_is (rw (c.deref.ensures.value, c.from.ensures) at c.in-None.ensures.lookup.0)

pub returns-in-Some : goal.returns-in-Some
returns-in-Some g c =
    let lookup = c.in-Some.ensures.lookup in
    let within : c.from.result < length c.deref.result.now = ltb-true _ _ (sym lookup.0) in
    let found : slice_get c.deref.result.now c.from.result ≡ Some c.in-Some.actor.now = get_is _ _ _ within lookup.1 in
    rw c.is_running.ensures (core_busy _ _ _ _ c.args.actor c.in-Some.actor.now c.self.invariant _ _ c.self.view_is (rw (c.deref.ensures.value, c.from.ensures) at found))
