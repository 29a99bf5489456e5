use Rattle.std.proofs.Common.{[]}
use Rattle.bw_shell.specs.Text.{finished_text}
use Rattle.byte_streams.proofs.Showing.{no_text}
use Rattle.bw_shell.proofs.Transcripts.{until_refused, until_told}
use Rattle.bw_shell.proofs.run.run_until.Goals as goal

pub returns-in-Ok : goal.returns-in-Ok
returns-in-Ok g c = (finished_text c.args.actor c.in-Ok.progress, until_told _ _ c.args.link _ c.in-Ok.progress c.in-Ok.ensures, c.show_finished.ensures)

pub returns-in-Err : goal.returns-in-Err
returns-in-Err g c = ([], until_refused _ _ c.args.link _ c.in-Err.refusal c.in-Err.ensures, no_text _)
