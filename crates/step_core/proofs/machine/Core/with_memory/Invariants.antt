use Rattle.std.proofs.Common.{◌≡◌, ℕ, Some}
use Rattle.std.specs.Prelude.{slice_get}
use Rattle.std.specs.Vec.{vec_len}
use Rattle.op_machine.specs.machine.Actors.{Actor, idle_actor}
use Rattle.step_core.proofs.machine.Core.with_memory.Given as goal

abbrev pub invariant-loop : goal.invariant-loop
invariant-loop g l =
    (vec_len l.actors ≡ l.counter) × ((a : ℕ) (at : Actor) → slice_get l.actors.items a ≡ Some at → at ≡ idle_actor l.limits)
