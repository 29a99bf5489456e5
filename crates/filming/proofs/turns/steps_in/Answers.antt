use Rattle.std.proofs.Common.{ap, arith, sym, ◌∙◌}
use Rattle.filming.specs.Films.{next_frame}
use Rattle.filming.proofs.Filming.{few_next, frames_next, take_next}
use Rattle.filming.proofs.turns.steps_in.Goals as goal

pub loop-turn-preserved : goal.loop-turn-preserved
loop-turn-preserved c =
    let before = c.loop-turn.invariant in
    let more = take_next c.args.turns.now c.loop-turn.turn-index c.turn-item.result c.loop-turn-test.true c.turn-item.is in
    let next = c.next_frame-steps.ensures in
    record {
      steps = next ∙ ap (λ steps. next_frame steps c.turn-item.result) before.steps ∙ sym (frames_next 0 c.args.turns.now c.loop-turn.turn-index c.turn-item.result more);
      few = omega (arith, next, before.few, few_next c.loop-turn.steps c.turn-item.result);
    }
