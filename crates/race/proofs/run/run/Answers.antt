use Rattle.std.proofs.Common.{refl, inl, inr}
use Rattle.bw_shell.specs.Text.{lone_refusal_text}
use Rattle.race.specs.Race.{told_as}
use Rattle.race.proofs.run.run.Goals as goal

pub returns-in-Ok-run_jobs : goal.returns-in-Ok-run_jobs
returns-in-Ok-run_jobs g c =
    let told = c.close.ensures in
    let run = c.in-Ok-run_jobs.ensures in (
      told.0,
      inl (
        c.in-Ok-run_jobs.results.items,
        c.in-Ok-run_jobs.seats.items,
        record { tree = c.in-Ok.tree; fresh = c.in-Ok.seats.items; limited = c.in-Ok.ensures.limits; opened = c.in-Ok.ensures.fresh; each = run.results; worked = run.worked },
        rw (c.in-Ok.ensures.limits, c.as_slice.ensures.value) at told.1,
      ),
      told.2,
    )

pub returns-in-Err : goal.returns-in-Err
returns-in-Err g c =
    let why = c.in-Err.error.refusal in (
      lone_refusal_text (told_as why),
      inr (inr (
        refl,
        why,
        record {
          tree = c.in-Ok.tree;
          fresh = c.in-Ok.seats.items;
          seats = c.in-Err.error.seats.items;
          results = c.in-Err.error.results.items;
          limited =
              c.in-Ok.ensures.limits;
          opened = c.in-Ok.ensures.fresh;
          stopped = c.in-Err.ensures.refused;
        },
        refl,
      )),
      rw c.refusal_of.ensures at c.show_lone_refusal-in-Err.ensures,
    )
