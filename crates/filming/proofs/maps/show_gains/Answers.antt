use Rattle.std.proofs.lemmas.List.{take_all}
use Rattle.byte_streams.proofs.Showing.{flat_more, shows_then}
use Rattle.filming.specs.Maps.{gain_text}
use Rattle.filming.proofs.maps.show_gains.Goals as goal

pub loop-pair-preserved : goal.loop-pair-preserved
loop-pair-preserved g c =
    rw (flat_more (gain_text c.args.before.now) c.args.after.now c.loop-pair.pair-index c.pair-item.result c.loop-pair-test.true c.pair-item.is)
    (shows_then c.loop-pair.invariant c.show_gain.ensures)

pub returns : goal.returns
returns g c = rw (take_all c.loop-pair.pair-index c.args.after.now c.loop-pair-test.false) at c.loop-pair.invariant
