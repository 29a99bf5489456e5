-- The texts in a page's box, and that they end in it.
use Rattle.std.specs.Prelude.{◌≤◌, ◌+◌, ◌*◌, ◌++◌, ℕ, List, [], codes, decimal, length}
use Rattle.tree_picture.specs.declared.shape.Mark.{Mark}
use Rattle.tree_picture.specs.declared.shape.Mark.TheVariants.{Termed, Termless, Held, Removed}
use Rattle.tree_picture.specs.declared.shape.TheConstants.{BOLD_WIDTH, INSET, MARK_INSET, PLAIN_WIDTH}

-- the name of a page
abbrev pub name_text : ℕ → List ℕ
name_text pid = codes "PID " ++ decimal pid

-- the word for how a page stands to the level above it
abbrev pub mark_text : Mark → List ℕ
mark_text Termed = []
mark_text Termless = codes "no term"
mark_text Held = codes "held"
mark_text Removed = codes "removed"

-- In a box of this width the name ends before the mark begins, and the mark and the range end in the box, by how wide a character is taken to
-- be.
pub record EndInBox (width pid : ℕ) (mark : Mark) (range : List ℕ) : Type 0 where
  pub named : INSET + length (name_text pid) * BOLD_WIDTH ≤ MARK_INSET
  pub marked : MARK_INSET + length (mark_text mark) * BOLD_WIDTH ≤ width
  pub ranged : INSET + length range * PLAIN_WIDTH ≤ width
