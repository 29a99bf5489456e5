use Rattle.std.proofs.lemmas.List.{take_all}
use Rattle.bw_shell.specs.Text.{item_text}
use Rattle.byte_streams.proofs.Showing.{shows_then, flat_more}
use Rattle.bw_shell.proofs.texts.show_items.Goals as goal

pub loop-item-preserved : goal.loop-item-preserved
loop-item-preserved g c =
    rw (flat_more item_text c.args.items.now c.loop-item.item-index c.item-item.result c.loop-item-test.true c.item-item.is)
    (shows_then c.loop-item.invariant c.show_item.ensures)

pub returns : goal.returns
returns g c = rw (take_all c.loop-item.item-index c.args.items.now c.loop-item-test.false) at c.loop-item.invariant
