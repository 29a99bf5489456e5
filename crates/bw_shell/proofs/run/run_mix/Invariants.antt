use Rattle.std.proofs.Common.{ℕ, List}
use Rattle.bw_model.specs.Schedules.{drawn, schedule_of}
use Rattle.byte_streams.specs.Output.{Prints}
use Rattle.bw_shell.specs.Transcript.{TakeDrawn}
use Rattle.bw_shell.specs.Turns.{trace_of}
use Rattle.bw_shell.proofs.Draws.{IsLeft}
use Rattle.bw_shell.proofs.run.run_mix.Given as goal

abbrev pub invariant-loop-draw : goal.invariant-loop-draw
invariant-loop-draw g l = record {
  taken : (text : List ℕ) × TakeDrawn (trace_of l.initial.core) (drawn l._draw (schedule_of l.seed l.initial.core.limits.actors)) (trace_of l.core) text
      × Prints (g.O.Output.state l.initial.out) (g.O.Output.state l.out) text;
  left : IsLeft (schedule_of l.seed l.initial.core.limits.actors) l._draw l.schedule;
}
