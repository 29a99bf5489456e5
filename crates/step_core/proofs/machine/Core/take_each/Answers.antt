use Rattle.std.proofs.Common.{◌≡◌, ◌<◌, length, Some, sym}
use Rattle.std.specs.Prelude.{slice_get}
use Rattle.step_core.proofs.Replaced.{get_is}
use Rattle.step_core.proofs.Stopping.{adds_push, take_more}
use Rattle.step_core.proofs.machine.Core.take_each.Goals as goal

pub returns-in-Err-clause-err : goal.returns-in-Err-clause-err
returns-in-Err-clause-err g c =
    let lt : c.loop-turn.turn-index < length c.args.turns.now = c.loop-turn-test.true in
    let item : slice_get c.args.turns.now c.loop-turn.turn-index ≡ Some c.turn-item.result = get_is _ _ _ lt c.turn-item.is in
    let same : c.turn-item.result ≡ c.copied.result = sym c.copied.ensures in
    rw c.in-Err.ensures.err (record {
      count = c.loop-turn.turn-index;
      added = c.loop-turn.invariant;
      next = c.copied.result;
      is_next = rw same at item;
      refused = λ f h. let e = c.in-Err.ensures.refused f h in cc e;
      memory = c.in-Err.ensures.memory;
    })

pub loop-turn-preserved : goal.loop-turn-preserved
loop-turn-preserved g c =
    let lt : c.loop-turn.turn-index < length c.args.turns.now = c.loop-turn-test.true in
    let item : slice_get c.args.turns.now c.loop-turn.turn-index ≡ Some c.turn-item.result = get_is _ _ _ lt c.turn-item.is in
    let same : c.turn-item.result ≡ c.copied.result = sym c.copied.ensures in
    let longer = take_more c.args.turns.now c.loop-turn.turn-index c.copied.result (rw same at item) in
    rw longer (adds_push _ _ _ _ _ _ c.loop-turn.invariant c.in-Ok.ensures.ok)
