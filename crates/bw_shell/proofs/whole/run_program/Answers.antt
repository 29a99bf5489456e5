use Rattle.std.proofs.Common.{[], refl, inl, inr, true}
use Rattle.bw_shell.specs.declared.refusal.Refusal.TheVariants.{NotOpened}
use Rattle.bw_shell.specs.Text.{lone_refusal_text}
use Rattle.bw_shell.specs.Turns.{opening_trace}
use Rattle.byte_streams.proofs.Showing.{shows_then, writes_whole}
use Rattle.bw_shell.proofs.Weaving.{one_else, is_whole_run}
use Rattle.std.proofs.KnownBytes.{Consumes-nil}
use Rattle.bw_shell.proofs.whole.run_program.Goals as goal

pub returns-in-Err : goal.returns-in-Err
returns-in-Err g c = record {
  taken = [];
  after = opening_trace c.args.limits;
  text = lone_refusal_text NotOpened;
  refused = true;
  reads = Consumes-nil _;
  says = inl (refl, c.requires.sound_in, refl, refl, refl);
  writes = writes_whole _ _ _ (shows_then c.show_lone_refusal.ensures c.finish.ensures.shows) c.requires.sound_out c.requires.fresh c.finish.ensures.ends;
  status_is = one_else 1 _ refl (λ all. cc all.2);
  status_else = inr refl;
}

pub returns : goal.returns
returns g c =
    is_whole_run _ _ _ _ _ _ _ _ _ _ _ (rw (c.in-Ok.ensures.entries, c.in-Ok.ensures.limits) at c.run-refused.ensures) c.linearized.ensures.linearized c.show_last_line.ensures c.finish-2.ensures.shows
    c.requires.sound_out c.requires.fresh c.finish-2.ensures.ends
    (rw (c.is_some.ensures, c.has_failed.ensures, c.has_failed-2.ensures) at c.status.ensures.zero) c.status.ensures.one
