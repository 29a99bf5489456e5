-- Where the boxes of pages lie on a sheet.
use Rattle.std.specs.Prelude.{◌≡◌, ◌≤◌, ◌<◌, ◌+◌, ◌⊎◌, ℕ, List, All, AllPairs}
use Rattle.tree_picture.specs.declared.shape.Rectangle.{Rectangle}
use Rattle.tree_picture.specs.declared.shape.TheConstants.{MARK_INSET, RANGE_DROP}

-- The places where a page's texts begin are in the rectangle, and nothing of it is outside of a sheet of this width and height.
pub record IsOnSheet (width height : ℕ) (r : Rectangle) : Type 0 where
  pub wide : MARK_INSET < r.width
  pub high : RANGE_DROP < r.height
  pub right : r.x + r.width ≤ width
  pub bottom : r.y + r.height ≤ height

-- The other rectangle stands to the right, at the same height, or else below.
abbrev pub IsBefore : Rectangle → Rectangle → Type 0
IsBefore one other = ((one.y ≡ other.y) × (one.x + one.width ≤ other.x)) ⊎ (one.y + one.height ≤ other.y)

-- All lie in the sheet, and no two overlap: each stands before all later ones.
pub record AreLaidOut (width height : ℕ) (boxes : List Rectangle) : Type 0 where
  pub within : All (IsOnSheet width height) boxes
  pub ordered : AllPairs IsBefore boxes

-- The rectangle stands before every one whose corner is at this place.
abbrev pub EndsBefore : ℕ → ℕ → Rectangle → Type 0
EndsBefore x y r = ((r.y ≡ y) × (r.x + r.width ≤ x)) ⊎ (r.y + r.height ≤ y)

-- Boxes that are laid out, down to a height, and the place of the next one.
pub record AreLaidTo (width bottom x y : ℕ) (boxes : List Rectangle) : Type 0 where
  pub laid : AreLaidOut width bottom boxes
  pub past : All (EndsBefore x y) boxes
