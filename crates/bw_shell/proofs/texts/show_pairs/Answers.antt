use Rattle.std.proofs.lemmas.List.{take_all}
use Rattle.bw_shell.specs.Text.{pair_text}
use Rattle.byte_streams.proofs.Showing.{shows_then, flat_more}
use Rattle.bw_shell.proofs.texts.show_pairs.Goals as goal

pub loop-pair-preserved : goal.loop-pair-preserved
loop-pair-preserved g c =
    rw (flat_more pair_text c.args.pairs.now c.loop-pair.pair-index c.pair-item.result c.loop-pair-test.true c.pair-item.is)
    (shows_then c.loop-pair.invariant c.show_pair.ensures)

pub returns : goal.returns
returns g c = rw (take_all c.loop-pair.pair-index c.args.pairs.now c.loop-pair-test.false) at c.loop-pair.invariant
