use Rattle.std.proofs.lemmas.List.{append-nil}
use Rattle.filming.proofs.run.film.Goals as goal

pub returns : goal.returns
returns g c =
    let add = c.outputs_add_up.ensures in
    let told = c.show_run-filmed.ensures in
    record {
      taken = told.0;
      text = told.1;
      filmed = c.show_run-filmed.result;
      reads = told.2;
      tells = told.3;
      writes = add.whole _ _ told.1 (rw append-nil at (add.both _ _ _ _ _ told.4 c.finish.ensures.shows)) c.requires.sound_out c.requires.fresh c.finish.ensures.ends;
      status_is = rw c.has_failed.ensures at c.status_of.ensures.zero;
      status_else = c.status_of.ensures.one;
    }
