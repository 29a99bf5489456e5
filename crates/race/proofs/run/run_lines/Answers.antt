use Rattle.std.proofs.Common.{refl, inl}
use Rattle.bw_shell.specs.Text.{refused_text}
use Rattle.race.proofs.Looking.{all_low}
use Rattle.race.proofs.run.run_lines.Goals as goal

pub returns-in-Err : goal.returns-in-Err
returns-in-Err g c =
    let at = c.in-Err.ensures.refused in
    (refused_text c.in-Err.line.number c.in-Err.line.refusal, (at.0, at.1, inl (refl, c.in-Err.line.number, c.in-Err.line.refusal, at.2, refl)), c.show_refused.ensures)

pub jobs_of-requires : goal.jobs_of-requires
jobs_of-requires g c = let asks = c.in-Ok.ensures.ok in all_low asks.0 _ asks.2
