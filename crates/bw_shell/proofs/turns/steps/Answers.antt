use Rattle.std.proofs.Common.{◌+◌, ℕ, ap, subst, sym}
use Rattle.step_core.specs.Turns.{Core}
use Rattle.step_core.specs.declared.event.Event.TheVariants.{Stepped}
use Rattle.bw_shell.specs.Transcript.{StepsOn}
use Rattle.bw_shell.specs.Turns.{TakesTurn, Trace, trace_of}
use Rattle.traces.specs.declared.trace.Turn.TheVariants.{Step}
use Rattle.bw_shell.proofs.Taken.{TurnTold, goes_told, stepped, steps_told, turn_told}
use Rattle.bw_shell.proofs.Transcripts.{no_steps, steps_more}
use Rattle.bw_shell.proofs.turns.steps.Goals as goal
use Rattle.bw_shell.proofs.turns.steps.Goals.{in-Some+else-is_won, in-None+else-not-goes_on}

pub loop-turn-init : goal.loop-turn-init
loop-turn-init c = no_steps _ _ _

pub returns-then-is_won : goal.returns-then-is_won
returns-then-is_won c =
    let took = subst (λ (n : ℕ). TakesTurn (trace_of c.loop-turn.core) (Step n) (Stepped c.in-Some.made) (trace_of c.step_on.new.self)) c.in_ok-number.ensures.ok
    (stepped c.loop-turn.core c.step_on.new.self c.in_ok-number.number (Stepped c.in-Some.made) c.in-Some.ensures.some.0 c.in-Some.ensures.some.1) in
    (c.loop-turn._turn, c.loop-turn-test.true, trace_of c.loop-turn.core, c.loop-turn.invariant, (Stepped c.in-Some.made, took, c.if-is_won.ensures))

pub returns-then-not-goes_on : goal.returns-then-not-goes_on
returns-then-not-goes_on c =
    let same = ap trace_of (c.step_on.ensures.none c.in-None.is) in
    let took = subst (λ (n : ℕ). TurnTold (trace_of c.loop-turn.core) n c.turn-told.result (trace_of c.turn-told.new.self)) c.in_ok-number.ensures.ok
    (subst (λ (t : Trace). TurnTold t c.in_ok-number.number c.turn-told.result (trace_of c.turn-told.new.self)) same
    (turn_told c.step_on.new.self c.turn-told.new.self c.in_ok-number.number c.turn-told.result c.turn-told.ensures.refused c.turn-told.ensures.memory c.turn-told.ensures.ok c.turn-told.ensures.err))
    in
    steps_told c.args.until (trace_of c.args.core.now) c.args.actor c.loop-turn._turn c.args.limit (trace_of c.loop-turn.core) c.turn-told.result
    (trace_of c.turn-told.new.self) c.told_of.result c.loop-turn.invariant c.loop-turn-test.true took c.if-not-goes_on.ensures c.told_of.ensures

pub loop-turn-preserved : goal.loop-turn-preserved
loop-turn-preserved c = elim c.match-step_on.branch [
  | in-Some+else-is_won w ↦
      let took = subst (λ (n : ℕ). TakesTurn (trace_of c.loop-turn.core) (Step n) (Stepped w.in-Some.made) (trace_of c.step_on.new.self)) c.in_ok-number.ensures.ok
      (stepped c.loop-turn.core c.step_on.new.self c.in_ok-number.number (Stepped w.in-Some.made) w.in-Some.ensures.some.0 w.in-Some.ensures.some.1) in
      subst (λ (core : Core). StepsOn c.args.until (trace_of c.args.core.now) c.args.actor (c.loop-turn._turn + 1) (trace_of core)) (sym w.core-is)
      (steps_more _ _ _ _ _ _ c.loop-turn.invariant (Stepped w.in-Some.made, took, w.if-is_won.ensures))
  | in-None+else-not-goes_on w ↦
      let same = ap trace_of (c.step_on.ensures.none w.in-None.is) in
      let took = subst (λ (n : ℕ). TurnTold (trace_of c.loop-turn.core) n w.turn-told.result (trace_of w.turn-told.new.self)) c.in_ok-number.ensures.ok
      (subst (λ (t : Trace). TurnTold t c.in_ok-number.number w.turn-told.result (trace_of w.turn-told.new.self)) same
      (turn_told c.step_on.new.self w.turn-told.new.self c.in_ok-number.number w.turn-told.result w.turn-told.ensures.refused w.turn-told.ensures.memory
      w.turn-told.ensures.ok w.turn-told.ensures.err)) in
      subst (λ (core : Core). StepsOn c.args.until (trace_of c.args.core.now) c.args.actor (c.loop-turn._turn + 1) (trace_of core)) (sym w.core-is)
      (steps_more _ _ _ _ _ _ c.loop-turn.invariant (goes_told c.args.until (trace_of c.loop-turn.core) c.args.actor w.turn-told.result (trace_of w.turn-told.new.self) took w.if-not-goes_on.ensures))
]
