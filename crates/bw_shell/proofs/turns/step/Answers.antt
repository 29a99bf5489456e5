use Rattle.std.proofs.Common.{ℕ, subst}
use Rattle.bw_shell.specs.Turns.{trace_of}
use Rattle.bw_shell.proofs.Taken.{TurnTold, step_told, turn_told}
use Rattle.bw_shell.proofs.turns.step.Goals as goal

pub returns : goal.returns
returns c =
    let took = subst (λ (n : ℕ). TurnTold (trace_of c.args.core.now) n c.turn-told.result (trace_of c.turn-told.new.self)) c.in_ok-number.ensures.ok
    (turn_told c.args.core.now c.turn-told.new.self c.in_ok-number.number c.turn-told.result c.turn-told.ensures.refused c.turn-told.ensures.memory c.turn-told.ensures.ok c.turn-told.ensures.err) in
    step_told c.args.until (trace_of c.args.core.now) c.args.actor c.turn-told.result (trace_of c.turn-told.new.self) c.told_of.result took c.told_of.ensures
