use Rattle.std.proofs.Common.{◌≤◌, arith, inl, inr, refl}
use Rattle.bw_shell.specs.declared.refusal.Refusal.TheVariants.{Memory}
use Rattle.bw_shell.specs.Text.{lone_refusal_text}
use Rattle.filming.specs.Films.{steps_in, too_long_text}
use Rattle.filming.proofs.run.show_turns.Goals as goal

pub returns-then-steps-gt-MOST_FRAMES : goal.returns-then-steps-gt-MOST_FRAMES
returns-then-steps-gt-MOST_FRAMES g c =
    let same = c.steps_in-steps.ensures in
    (too_long_text (steps_in c.args.turns.now), inr (inl (omega (arith, same, c.if-steps-gt-MOST_FRAMES.true), refl, refl)), rw same at c.show_too_long.ensures)

pub returns-in_default : goal.returns-in_default
returns-in_default g c = (lone_refusal_text Memory, inl (refl, refl), c.show_lone_refusal.ensures)

pub returns : goal.returns
returns g c =
    let page = c.show_page-whole.ensures in
    let few : steps_in c.args.turns.now ≤ 2000 = omega (arith, c.steps_in-steps.ensures, c.if-steps-gt-MOST_FRAMES.false) in
    (page.0, inr (inr (few, c.show_page-whole.result, rw c.in-Ok.ensures.limits at page.1, c.is_whole.ensures)), page.2)
