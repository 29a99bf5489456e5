use Rattle.std.proofs.Common.{[], inl, refl}
use Rattle.byte_streams.proofs.Showing.{no_text}
use Rattle.bw_shell.proofs.Transcripts.{run_told}
use Rattle.bw_shell.proofs.run.run_command.Goals as goal

pub returns-in-Ok : goal.returns-in-Ok
returns-in-Ok g c =
    let told = c.run_until.ensures in
    (told.0, run_told _ _ _ c.args.command _ told.0 c.in-Ok.ensures.ok told.1, told.2)

pub returns-in-Err : goal.returns-in-Err
returns-in-Err g c = ([], inl (c.in-Err.ensures.refused, c.in-Err.ensures.unchanged, refl), no_text _)
