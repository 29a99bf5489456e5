use Rattle.std.proofs.lemmas.List.{take_all}
use Rattle.byte_streams.proofs.Showing.{flat_more, shows_then}
use Rattle.filming.specs.Maps.{loss_text}
use Rattle.filming.proofs.maps.show_losses.Goals as goal

pub loop-pair-preserved : goal.loop-pair-preserved
loop-pair-preserved g c =
    rw (flat_more (loss_text c.args.after.now) c.args.before.now c.loop-pair.pair-index c.pair-item.result c.loop-pair-test.true c.pair-item.is)
    (shows_then c.loop-pair.invariant c.show_loss.ensures)

pub returns : goal.returns
returns g c = rw (take_all c.loop-pair.pair-index c.args.before.now c.loop-pair-test.false) at c.loop-pair.invariant
