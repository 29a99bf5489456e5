use Rattle.std.proofs.Common.{◌++◌, append_assoc, subst}
use Rattle.std.specs.Prelude.{codes, decimal}
use Rattle.tree_picture.specs.Adding.{Adds}
use Rattle.tree_picture.specs.Ranges.{key_text}
use Rattle.tree_picture.proofs.Ranges.{adds_then, few_child_text}
use Rattle.tree_picture.proofs.says.with_child.Goals as goal

pub returns-clause-adds : goal.returns-clause-adds
returns-clause-adds c =
    subst (Adds c.args.words.now c.with_number.new.words) (append_assoc c.args.before.now (key_text c.args.separator.now) (codes " to PID " ++ decimal c.args.child))
    (adds_then _ _ _ _ _ (rw c.as_slice.ensures.bytes at c.with_key.ensures) (rw c.from.ensures at c.with_number.ensures))

pub returns-clause-short : goal.returns-clause-short
returns-clause-short c = few_child_text c.args.separator.now c.args.child c.ranges.child.fits
