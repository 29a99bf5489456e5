use Rattle.tree_picture.proofs.Celling.{limbo_fits}
use Rattle.tree_picture.proofs.Ranges.{adds_then}
use Rattle.tree_picture.proofs.cells.limbo_words.Goals as goal

pub returns : goal.returns
returns c =
    limbo_fits c.args.item c.args.stage _ c.with_item.ensures.short c.with_stage.ensures.short
    (rw c.new-words.ensures at (adds_then _ _ _ _ _ c.with_item.ensures.adds c.with_stage.ensures.adds))
