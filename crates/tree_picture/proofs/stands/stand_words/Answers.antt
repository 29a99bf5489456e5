use Rattle.tree_picture.proofs.Ranges.{adds_then}
use Rattle.tree_picture.proofs.Standing.{stand_fits}
use Rattle.tree_picture.proofs.stands.stand_words.Goals as goal

pub returns : goal.returns
returns c =
    stand_fits c.args.actor c.args.row _ c.with_next.ensures.short c.ranges.actor.fits
    (rw c.new-words.ensures at (adds_then _ _ _ _ _ (rw c.from.ensures at c.with_number.ensures) c.with_next.ensures.adds))
