use Rattle.std.proofs.Common.{[], refl}
use Rattle.bw_shell.specs.Text.{turned_text}
use Rattle.byte_streams.proofs.Showing.{no_text}
use Rattle.bw_shell.proofs.run.run_turn.Goals as goal

pub returns-in-Ok : goal.returns-in-Ok
returns-in-Ok g c = (
  turned_text c.args.actor c.in-Ok.progress,
  (c.in-Ok.progress, c.in-Ok.ensures, refl),
  c.show_turned.ensures,
)

pub returns-in-Err : goal.returns-in-Err
returns-in-Err g c = ([], (c.in-Err.ensures, refl), no_text _)
