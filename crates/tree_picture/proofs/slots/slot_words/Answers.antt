use Rattle.tree_picture.proofs.Ranges.{adds_then, slot_fits}
use Rattle.tree_picture.proofs.slots.slot_words.Goals as goal

pub returns : goal.returns
returns c =
    slot_fits (record { number = c.args.number; content = c.args.content }) _ c.ranges.number.fits c.ranges.content.fits
    (rw c.new-words.ensures at (adds_then _ _ _ _ _ (rw c.from.ensures at c.with_number.ensures) (rw (c.kind_words.ensures, c.from-2.ensures) at c.with_number-2.ensures)))
