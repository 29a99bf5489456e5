use Rattle.std.proofs.lemmas.List.{take_all}
use Rattle.byte_streams.proofs.Showing.{flat_more, shows_then}
use Rattle.filming.specs.Logs.{update_line}
use Rattle.filming.proofs.logs.show_updates.Goals as goal

pub loop-update-preserved : goal.loop-update-preserved
loop-update-preserved g c =
    rw (flat_more update_line c.args.log.now c.loop-update.update-index c.update-item.result c.loop-update-test.true c.update-item.is)
    (shows_then c.loop-update.invariant c.show_update.ensures)

pub returns : goal.returns
returns g c = rw (take_all c.loop-update.update-index c.args.log.now c.loop-update-test.false) at c.loop-update.invariant
