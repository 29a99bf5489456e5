-- What the edge of a box tells.
use Rattle.std.specs.Prelude.{◌≡◌, Bool, true, false}
use Rattle.tree_picture.specs.declared.colour.Colour.{Colour}
use Rattle.tree_picture.specs.declared.colour.Colour.TheVariants as colour
use Rattle.tree_picture.specs.declared.shape.Rectangle.{Rectangle}
use Rattle.tree_picture.specs.declared.touches.Touch.{Touch}
use Rattle.tree_picture.specs.declared.touches.Touch.TheVariants.{Untouched, Read, Changed}

-- What the last step read has a thick edge, and what it changed a thick one of a colour of its own.
abbrev pub touch_colour : Touch → Colour
touch_colour Untouched = colour.Ink
touch_colour Read = colour.Ink
touch_colour Changed = colour.Changed

abbrev pub is_thick : Touch → Bool
is_thick Untouched = false
is_thick Read = true
is_thick Changed = true

abbrev pub HasEdge : Touch → Rectangle → Type 0
HasEdge touch rectangle = (rectangle.edge ≡ touch_colour touch) × (rectangle.thick ≡ is_thick touch)
