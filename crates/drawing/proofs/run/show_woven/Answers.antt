use Rattle.std.proofs.Common.{refl}
use Rattle.bw_shell.specs.Text.{refused_text}
use Rattle.drawing.proofs.run.show_woven.Goals as goal

pub returns-in-Some : goal.returns-in-Some
returns-in-Some g c = (refused_text c.in-Some.line.number c.in-Some.line.refusal, rw c.in-Some.is (refl, refl), c.show_refused.ensures)
