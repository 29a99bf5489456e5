use Rattle.std.proofs.Common.{◌≡◌, [], ◌++◌, sym, subst, arith}
use Rattle.std.proofs.lemmas.List.{append-nil}
use Rattle.bw_model.specs.Schedules.{drawn, schedule_of}
use Rattle.bw_shell.specs.Transcript.{RefusesDrawn}
use Rattle.bw_shell.specs.Turns.{Trace}
use Rattle.bw_shell.proofs.Draws.{all_left, fewer_left, none_drawn, one_drawn, take_more}
use Rattle.byte_streams.proofs.Showing.{no_text, shows_then}
use Rattle.bw_shell.proofs.run.run_mix.Goals as goal

pub loop-draw-init : goal.loop-draw-init
loop-draw-init g c = record { taken = ([], none_drawn _ _, no_text _); left = rw c.schedule_over-schedule.ensures (all_left _) }

pub returns-in-Err : goal.returns-in-Err
returns-in-Err g c =
    let inv = c.loop-draw.invariant in
    let told = c.in-Err.ensures in
    let drawn_more = one_drawn _ _ c.loop-draw._draw inv.left in (
      inv.taken.0 ++ told.0,
      (
        c.loop-draw._draw,
        c.loop-draw-test.true,
        drawn c.loop-draw._draw (schedule_of c.args.seed c.args.core.now.limits.actors),
        c.next-actor.result,
        rw c.next-actor.ensures.actor drawn_more,
        rw (told.1.1, told.1.2) (rw (append-nil inv.taken.0) inv.taken.1),
        subst (λ (m : Trace). RefusesDrawn m c.next-actor.result c.in-Err.refusal) (sym told.1.1) told.1.0,
      ),
      shows_then inv.taken.2 told.2,
    )

pub loop-draw-preserved : goal.loop-draw-preserved
loop-draw-preserved g c =
    let inv = c.loop-draw.invariant in
    let told = c.in-Ok.ensures in
    record {
      taken = (
        inv.taken.0 ++ told.0,
        rw (one_drawn _ _ c.loop-draw._draw inv.left) (take_more _ _ _ _ _ _ _ inv.taken.1 (rw c.next-actor.ensures.actor at told.1)),
        shows_then inv.taken.2 told.2,
      );
      left = rw c.next-actor.ensures.rest (fewer_left _ _ _ inv.left);
    }

pub returns : goal.returns
returns g c =
    let inv = c.loop-draw.invariant in
    let all : c.loop-draw._draw ≡ c.args.count = omega (arith, c.loop-draw-test.false, c.loop-draw.auto._draw-end) in
    (inv.taken.0, rw all at inv.taken.1, inv.taken.2)
