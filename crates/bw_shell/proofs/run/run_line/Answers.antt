use Rattle.std.proofs.Common.{◌<◌, [], length, sym, ◌∙◌, arith}
use Rattle.std.proofs.lemmas.Bool.{eqb-true, eqb-false}
use Rattle.byte_streams.proofs.Showing.{no_text}
use Rattle.bw_shell.proofs.Transcripts.{skipped, refused, performed}
use Rattle.bw_shell.proofs.run.run_line.Goals as goal

pub returns-then-is_empty : goal.returns-then-is_empty
returns-then-is_empty g c = ([], skipped _ _ _ _ (eqb-true _ _ (sym c.is_empty.ensures ∙ c.if-is_empty.true)), no_text _)

pub returns-in-Ok : goal.returns-in-Ok
returns-in-Ok g c =
    let some : 0 < length c.args.line.now = omega (arith, eqb-false _ _ (sym c.is_empty.ensures ∙ c.if-is_empty.false)) in
    let told = c.in-Ok.ensures in
    (told.0, performed _ _ _ _ told.1.0 _ told.0 some told.1.1 told.1.2 told.1.3, told.2)

pub returns-in-Err : goal.returns-in-Err
returns-in-Err g c =
    let some : 0 < length c.args.line.now = omega (arith, eqb-false _ _ (sym c.is_empty.ensures ∙ c.if-is_empty.false)) in
    let told = c.in-Err.ensures in
    (told.0, refused _ _ _ _ c.in-Err.refusal _ told.0 some told.1, told.2)
