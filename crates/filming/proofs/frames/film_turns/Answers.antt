use Rattle.std.proofs.Common.{◌++◌, [], ap, arith, drop, refl, sym, take, ◌∙◌}
use Rattle.std.proofs.lemmas.List.{append-nil, take-append-drop, take_all}
use Rattle.byte_streams.proofs.Showing.{no_text, then_no_text, shows_then}
use Rattle.filming.specs.Films.{AreFilmed, next_frame}
use Rattle.filming.proofs.Filming.{few_next, filmed_more, frames_next, take_next}
use Rattle.filming.proofs.frames.film_turns.Goals as goal

pub loop-turn-init : goal.loop-turn-init
unfolding AreFilmed
loop-turn-init g c = record { filmed = ([], (refl, c.new-log.ensures.items, refl), no_text _); number = refl; few = omega arith }

pub loop-turn-preserved : goal.loop-turn-preserved
loop-turn-preserved g c =
    let before = c.loop-turn.invariant in
    let told = c.if-not-film_turn.ensures in
    let more = take_next c.args.turns.now c.loop-turn.turn-index c.turn-item.result c.loop-turn-test.true c.turn-item.is in
    record {
      filmed = (
        before.filmed.0 ++ told.1,
        rw more (filmed_more 1 _ _ _ _ _ _ _ _ told.0 _ _ before.filmed.1 told.2 (rw before.number at told.3)),
        shows_then before.filmed.2 told.4,
      );
      number = c.next_frame-number.ensures ∙ ap (λ number. next_frame number c.turn-item.result) before.number ∙ sym (frames_next 1 c.args.turns.now c.loop-turn.turn-index c.turn-item.result more);
      few = omega (arith, c.next_frame-number.ensures, before.few, few_next c.loop-turn.number c.turn-item.result);
    }

pub returns-then-not-film_turn : goal.returns-then-not-film_turn
returns-then-not-film_turn g c =
    let before = c.loop-turn.invariant.filmed in (
      take c.loop-turn.turn-index c.args.turns.now,
      drop c.loop-turn.turn-index c.args.turns.now,
      c.loop-turn.core,
      c.loop-turn.log.items,
      before.0,
      sym (take-append-drop c.loop-turn.turn-index c.args.turns.now),
      before.1,
      then_no_text before.2 c.if-not-film_turn.ensures,
      λ bad. cc bad,
    )

pub returns : goal.returns
returns g c =
    let before = c.loop-turn.invariant.filmed in (
      take c.loop-turn.turn-index c.args.turns.now,
      [],
      c.loop-turn.core,
      c.loop-turn.log.items,
      before.0,
      sym (append-nil _ ∙ take_all c.loop-turn.turn-index c.args.turns.now c.loop-turn-test.false),
      before.1,
      before.2,
      λ _. refl,
    )
