use Rattle.std.proofs.Common.{inl, refl}
use Rattle.bw_shell.specs.declared.refusal.Refusal.TheVariants.{Memory}
use Rattle.bw_shell.specs.Text.{lone_refusal_text}
use Rattle.filming.proofs.run.show_taken.Goals as goal

pub returns-in-Ok : goal.returns-in-Ok
returns-in-Ok g c = rw (c.as_slice.ensures.value, c.in-Ok.ensures, c.into_trace-trace.ensures, c.limits-limits.ensures) at c.show_turns.ensures

pub returns : goal.returns
returns g c = (lone_refusal_text Memory, inl (refl, refl), c.show_lone_refusal.ensures)
