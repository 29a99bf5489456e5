use Rattle.tree_picture.proofs.Celling.{epoch_fits}
use Rattle.tree_picture.proofs.Ranges.{adds_then}
use Rattle.tree_picture.proofs.cells.epoch_words.Goals as goal

pub returns : goal.returns
returns c =
    epoch_fits c.args.actor c.args.epoch _ c.with_epoch.ensures.short c.ranges.actor.fits
    (rw c.new-words.ensures at (adds_then _ _ _ _ _ (rw c.from.ensures at c.with_number.ensures) c.with_epoch.ensures.adds))
