use Rattle.std.proofs.Common.{[], inl, inr, refl}
use Rattle.std.proofs.KnownBytes.{Consumes-nil}
use Rattle.bw_shell.specs.Turns.{trace_of}
use Rattle.bw_shell.specs.declared.refusal.Refusal.TheVariants.{NotOpened}
use Rattle.bw_shell.specs.Text.{lone_refusal_text}
use Rattle.drawing.proofs.run.show_run.Goals as goal

pub returns-in_default : goal.returns-in_default
returns-in_default g c =
    let same = c.weave_core.ensures.none c.in_default.is in
    ([], lone_refusal_text NotOpened, rw same.0 (Consumes-nil _), inl (refl, rw same.0 c.requires.sound_in, refl, refl), c.show_lone_refusal.ensures)

pub returns : goal.returns
returns g c =
    let ran = c.in-Some.ensures.ran in
    let told = c.show_woven.ensures in (
      ran.taken,
      told.0,
      ran.reads,
      inr (trace_of c.in-Some.woven.core, c.in-Some.woven.core.demand.wanted, ran.text, c.in-Some.woven.refused, ran.says, c.linearized.ensures.linearized, rw c.has_failed.ensures at told.1),
      told.2,
    )
