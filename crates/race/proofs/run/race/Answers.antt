use Rattle.std.proofs.Common.{refl, inl, inr}
use Rattle.bw_shell.specs.Text.{lone_refusal_text}
use Rattle.bw_shell.specs.declared.refusal.Refusal.TheVariants.{Memory}
use Rattle.race.proofs.Taking.{is_race}
use Rattle.race.proofs.run.race.Goals as goal
use Rattle.race.proofs.run.race.Goals.{in-Ok, in-Err}

pub returns : goal.returns
returns g c =
    let add = c.outputs_add_up.ensures in
    let zero = rw (c.has_failed-2.ensures, c.has_failed-3.ensures) at c.status.ensures.zero in
    elim c.match-read_all.branch [
      | in-Ok w ↦
          let took = w.in-Ok.ensures.taken in
          let told = w.run_lines-refused.ensures in
          let tells = rw (w.as_slice.ensures.value, took.2, w.has_failed.ensures) at told.1 in
          is_race add.both add.whole _ _ _ _ _ _ _ took.0 told.0 _ _ took.1 (rw w.refused-is (inl (w.in-Ok.ensures.ended, tells))) (rw w.out-is told.2)
          c.finish.ensures.shows c.requires.sound_out c.requires.fresh c.finish.ensures.ends zero c.status.ensures.one
      | in-Err w ↦
          let took = w.in-Err.ensures.taken in
          is_race add.both add.whole _ _ _ _ _ _ _ took.0 (lone_refusal_text Memory) _ _ took.1 (rw w.refused-is (inr (w.in-Err.ensures.unfailed, refl, refl)))
          (rw w.out-is w.show_lone_refusal.ensures)
          c.finish.ensures.shows c.requires.sound_out c.requires.fresh c.finish.ensures.ends zero c.status.ensures.one
    ]
