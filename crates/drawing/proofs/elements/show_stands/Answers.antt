use Rattle.std.proofs.Common.{ap, ◌+◌, refl}
use Rattle.std.proofs.lemmas.List.{take_all}
use Rattle.byte_streams.proofs.Showing.{no_text, shows_then}
use Rattle.drawing.proofs.Bytes.{stands_next}
use Rattle.drawing.proofs.elements.show_stands.Goals as goal

pub loop-stand-init : goal.loop-stand-init
loop-stand-init g c = record { shown = no_text _; place = refl }

pub loop-stand-preserved : goal.loop-stand-preserved
loop-stand-preserved g c = record {
  shown =
      rw (stands_next c.args.corner.now c.args.stands.now c.loop-stand.stand-index c.loop-stand-test.true)
      (shows_then c.loop-stand.invariant.shown (rw c.loop-stand.invariant.place at c.show_stand.ensures));
  place = ap (λ n. n + 1) c.loop-stand.invariant.place;
}

pub returns : goal.returns
returns g c = rw (take_all c.loop-stand.stand-index c.args.stands.now c.loop-stand-test.false) at c.loop-stand.invariant.shown
