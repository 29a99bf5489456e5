use Rattle.byte_streams.proofs.Showing.{shows_then}
use Rattle.bw_shell.proofs.Backward.{flat_back}
use Rattle.bw_shell.specs.Text.{item_text}
use Rattle.bw_shell.proofs.texts.show_items_back.Goals as goal

pub loop-place-preserved : goal.loop-place-preserved
loop-place-preserved g c =
    rw (flat_back item_text c.args.items.now c.loop-place.place c.index-items-place.result c.loop-place-test.true
    c.loop-place.auto.place c.index-items-place.is)
    (shows_then c.loop-place.invariant c.show_item.ensures)
