use Rattle.tree_picture.proofs.Ranges.{adds_then}
use Rattle.tree_picture.proofs.write.with_range.Goals as goal

pub returns-in-Some : goal.returns-in-Some
returns-in-Some c = rw c.in-Some.is (adds_then _ _ _ _ _ (rw c.as_slice.ensures.bytes at c.with_key.ensures) (rw c.as_slice-in-Some.ensures.bytes at c.with_key-in-Some.ensures))

pub returns-in-None : goal.returns-in-None
returns-in-None c = rw c.in-None.is (adds_then _ _ _ _ _ (rw c.as_slice.ensures.bytes at c.with_key.ensures) c.add.ensures)
