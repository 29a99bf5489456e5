-- Colours as they are written, and how lines of records look.
use Rattle.std.specs.Prelude.{ℕ, List, Bool, true, false, codes}
use Rattle.tree_picture.specs.declared.colour.Colour.{Colour}
use Rattle.tree_picture.specs.declared.colour.Colour.TheVariants.{Ink, Grey, Paper, Page, Delta, Side, Term, Missing, Held, Removed, Merged, Actor, Changed}

abbrev pub colour_text : Colour → List ℕ
colour_text Ink = codes "#1b1f24"
colour_text Grey = codes "#57606a"
colour_text Paper = codes "#ffffff"
colour_text Page = codes "#ddf4e4"
colour_text Delta = codes "#dbe9ff"
colour_text Side = codes "#0a5ec2"
colour_text Term = codes "#1a7f37"
colour_text Missing = codes "#bc4c00"
colour_text Held = codes "#ffe08a"
colour_text Removed = codes "#ffc9c4"
colour_text Merged = codes "#e4d4fa"
colour_text Actor = codes "#8250df"
colour_text Changed = codes "#cf222e"

-- A line of a record that counts is in ink, and one that doesn't is grey and struck through.
abbrev pub line_colour : Bool → Colour
line_colour true = Ink
line_colour false = Grey

abbrev pub decoration : Bool → List ℕ
decoration true = codes "none"
decoration false = codes "line-through"
