use Rattle.std.proofs.Common.{[], inl, inr, refl, sym, ◌∙◌}
use Rattle.bw_shell.specs.Text.{turned_text}
use Rattle.byte_streams.proofs.Showing.{no_text}
use Rattle.bw_shell.proofs.run.run_drawn.Goals as goal

pub returns-then-not-is_busy : goal.returns-then-not-is_busy
returns-then-not-is_busy g c = ([], inl (sym c.is_busy.ensures ∙ c.if-not-is_busy.true, refl, refl), no_text _)

pub returns-in-Ok : goal.returns-in-Ok
returns-in-Ok g c = (
  turned_text c.args.actor c.in-Ok.progress,
  inr (sym c.is_busy.ensures ∙ c.if-not-is_busy.false, c.in-Ok.progress, rw c.from-actor.ensures at c.in-Ok.ensures, refl),
  rw c.from-actor.ensures at c.show_turned.ensures,
)
