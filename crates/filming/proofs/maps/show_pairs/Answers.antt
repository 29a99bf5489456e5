use Rattle.std.proofs.lemmas.List.{take_all}
use Rattle.byte_streams.proofs.Showing.{flat_more, shows_then}
use Rattle.filming.specs.Maps.{pair_line}
use Rattle.filming.proofs.maps.show_pairs.Goals as goal

pub loop-pair-preserved : goal.loop-pair-preserved
loop-pair-preserved g c =
    rw (flat_more pair_line c.args.pairs.now c.loop-pair.pair-index c.pair-item.result c.loop-pair-test.true c.pair-item.is)
    (shows_then c.loop-pair.invariant c.show_pair.ensures)

pub returns : goal.returns
returns g c = rw (take_all c.loop-pair.pair-index c.args.pairs.now c.loop-pair-test.false) at c.loop-pair.invariant
