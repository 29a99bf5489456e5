use Rattle.std.proofs.Common.{[], inl, inr, refl}
use Rattle.byte_streams.proofs.Showing.{no_text}
use Rattle.bw_shell.proofs.Transcripts.{asked}
use Rattle.bw_shell.proofs.run.run_asked.Goals as goal

pub returns-in-Ok : goal.returns-in-Ok
returns-in-Ok g c =
    let told = c.run_request.ensures in
    (told.0, asked _ _ _ c.in-Ok.request _ _ told.0 c.in-Ok.ensures.ok.0 c.in-Ok.ensures.ok.1 told.1, told.2)

pub returns-in-Err-Malformed : goal.returns-in-Err-Malformed
returns-in-Err-Malformed g c =
    let none = c.in-Err-Malformed.ensures.malformed (cc c.in-Err-Malformed.field-0-is) in
    ([], inl (refl, refl, refl, none), no_text _)

pub returns-in-Err-TooLong : goal.returns-in-Err-TooLong
returns-in-Err-TooLong g c =
    let long = c.in-Err-TooLong.ensures.too_long (cc c.in-Err-TooLong.field-0-is) in
    ([], inr (inl (refl, refl, refl, long.0, long.1, long.2)), no_text _)
