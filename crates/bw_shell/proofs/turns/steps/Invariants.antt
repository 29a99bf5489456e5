use Rattle.bw_shell.specs.Turns.{trace_of}
use Rattle.bw_shell.specs.Transcript.{StepsOn}
use Rattle.bw_shell.proofs.turns.steps.Given as goal

abbrev pub invariant-loop-turn : goal.invariant-loop-turn
invariant-loop-turn l = StepsOn l.until (trace_of l.initial.core) l.actor l._turn (trace_of l.core)
