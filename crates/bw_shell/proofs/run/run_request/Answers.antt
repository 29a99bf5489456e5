use Rattle.std.proofs.Common.{[]}
use Rattle.byte_streams.proofs.Showing.{no_text}
use Rattle.bw_shell.proofs.Transcripts.{begun_told}
use Rattle.bw_shell.proofs.run.run_request.Goals as goal

pub returns-in-Begin : goal.returns-in-Begin
returns-in-Begin g c =
    let told = c.begin.ensures in
    rw c.in-Begin.is ([], begun_told _ _ _ _ _ told.ok told.refused told.unchanged, no_text _)

pub returns-in-Turn : goal.returns-in-Turn
returns-in-Turn g c = rw c.in-Turn.is c.run_turn.ensures

pub returns-in-Finish : goal.returns-in-Finish
returns-in-Finish g c = rw c.in-Finish.is c.run_until-in-Finish.ensures

pub returns-in-Until : goal.returns-in-Until
returns-in-Until g c = rw c.in-Until.is c.run_until.ensures

pub returns-in-Mix : goal.returns-in-Mix
returns-in-Mix g c = rw c.in-Mix.is c.run_mix.ensures

pub returns-in-Run : goal.returns-in-Run
returns-in-Run g c = rw c.in-Run.is c.run_command.ensures
