-- Each shape as an element of an SVG document, and a list of shapes as a document.
use Rattle.std.specs.Prelude.{ℕ, List, [], ◌∷◌, ◌+◌, ◌*◌, ◌++◌, Bool, true, false, codes, decimal}
use Rattle.std.specs.List.{flat_map}
use Rattle.tree_picture.specs.declared.colour.Colour.TheVariants.{Actor, Ink, Missing}
use Rattle.tree_picture.specs.declared.shape.TheConstants.{INSET, MARK_INSET, NAME_DROP, RANGE_DROP, SLOT_DROP, SLOT_INSET, STAND_DROP, STAND_ROW}
use Rattle.tree_picture.specs.declared.shape.Line.{Line as LineOf}
use Rattle.tree_picture.specs.declared.shape.PageBox.{PageBox}
use Rattle.tree_picture.specs.declared.shape.RecordLine.{RecordLine}
use Rattle.tree_picture.specs.declared.shape.Rectangle.{Rectangle}
use Rattle.tree_picture.specs.declared.shape.Shape.{Shape}
use Rattle.tree_picture.specs.declared.shape.Shape.TheVariants.{Page, Box, Record, Line, Slot, Cell, Text}
use Rattle.tree_picture.specs.declared.shape.SlotBox.{SlotBox}
use Rattle.tree_picture.specs.declared.shape.Text.{Text as TextOf}
use Rattle.tree_picture.specs.declared.stands.Stand.{Stand}
use Rattle.tree_picture.specs.Colours.{colour_text, decoration, line_colour}
pub use Rattle.tree_picture.specs.Texts.{mark_text, name_text}
use Rattle.tree_picture.specs.Stands.{stand_text}
use Rattle.tree_picture.specs.Document.{Attribute, Element, element_text, open_text, close_text}

abbrev pub attribute : List ℕ → List ℕ → Attribute
attribute name value = record { name = name; value = value }

-- an attribute with a number
abbrev pub number : List ℕ → ℕ → Attribute
number name n = attribute name (decimal n)

-- how thick an edge is
abbrev pub thickness : Bool → List ℕ
thickness true = codes "3"
thickness false = codes "1"

abbrev pub rectangle_attributes : Rectangle → List Attribute
rectangle_attributes r =
    number (codes "x") r.x ∷ number (codes "y") r.y ∷ number (codes "width") r.width ∷ number (codes "height") r.height
    ∷ attribute (codes "rx") (codes "4") ∷ attribute (codes "fill") (colour_text r.fill) ∷ attribute (codes "stroke") (colour_text r.edge)
    ∷ attribute (codes "stroke-width") (thickness r.thick) ∷ []

abbrev pub rectangle_element : List Attribute → Rectangle → Element
rectangle_element before r = record { name = codes "rect"; attributes = before ++ rectangle_attributes r; content = [] }

-- the lengths of the dashes of a line and of the gaps between them, or that it has none
abbrev pub dashes : Bool → List ℕ
dashes true = codes "6 4"
dashes false = codes "none"

abbrev pub line_element : LineOf → Element
line_element line = record {
  name = codes "line";
  attributes = number (codes "x1") line.x1 ∷ number (codes "y1") line.y1 ∷ number (codes "x2") line.x2 ∷ number (codes "y2") line.y2
      ∷ attribute (codes "stroke") (colour_text line.colour) ∷ attribute (codes "stroke-width") (codes "2") ∷ attribute (codes "stroke-dasharray") (dashes line.dashed) ∷ [];
  content = [];
}

abbrev pub weight : Bool → List ℕ
weight true = codes "bold"
weight false = codes "normal"

abbrev pub text_element : TextOf → Element
text_element text = record {
  name = codes "text";
  attributes = number (codes "x") text.x ∷ number (codes "y") text.y ∷ number (codes "font-size") text.size
      ∷ attribute (codes "font-weight") (weight text.bold) ∷ attribute (codes "fill") (colour_text text.colour) ∷ [];
  content = text.words;
}

abbrev pub record_element : RecordLine → Element
record_element line = record {
  name = codes "text";
  attributes = number (codes "x") line.x ∷ number (codes "y") line.y ∷ attribute (codes "font-size") (codes "11")
      ∷ attribute (codes "fill") (colour_text (line_colour line.counts)) ∷ attribute (codes "text-decoration") (decoration line.counts) ∷ [];
  content = line.words;
}

-- the texts in a page's box
abbrev pub name_in : PageBox → TextOf
name_in page = record { x = page.rectangle.x + INSET; y = page.rectangle.y + NAME_DROP; size = 14; bold = true; colour = Ink; words = name_text page.pid }

abbrev pub mark_in : PageBox → TextOf
mark_in page = record { x = page.rectangle.x + MARK_INSET; y = page.rectangle.y + NAME_DROP; size = 13; bold = true; colour = Missing; words = mark_text page.mark }

abbrev pub range_in : PageBox → TextOf
range_in page = record { x = page.rectangle.x + INSET; y = page.rectangle.y + RANGE_DROP; size = 11; bold = false; colour = Ink; words = page.range }

-- an actor at a page: under its box, the first one on top
abbrev pub stand_in : Rectangle → ℕ → Stand → TextOf
stand_in r place stand = record { x = r.x + INSET; y = r.y + (r.height + (place * STAND_ROW + STAND_DROP)); size = 12; bold = true; colour = Actor; words = stand_text stand.actor stand.row }

-- so all of them, from this place on
abbrev pub stand_elements : Rectangle → ℕ → List Stand → List Element
stand_elements r place [] = []
stand_elements r place (stand ∷ stands) = text_element (stand_in r place stand) ∷ stand_elements r (place + 1) stands

-- A page's box has the page's PID for a class. It is no identifier, since a document may have many pictures.
abbrev pub box_element : PageBox → Element
box_element page = rectangle_element (attribute (codes "class") (codes "page-" ++ decimal page.pid) ∷ []) page.rectangle

-- so has a slot's its number
abbrev pub slot_element : SlotBox → Element
slot_element slot = rectangle_element (attribute (codes "class") (codes "slot-" ++ decimal slot.slot.number) ∷ []) slot.rectangle

-- the words in the box of a slot or of a cell
abbrev pub words_in : Rectangle → List ℕ → TextOf
words_in r words = record { x = r.x + SLOT_INSET; y = r.y + SLOT_DROP; size = 11; bold = false; colour = Ink; words = words }

-- A page's box is followed by its PID, its mark, its range and its actors, a slot's or a cell's by its words.
abbrev pub elements_of : Shape → List Element
elements_of (Page page) = box_element page ∷ text_element (name_in page) ∷ text_element (mark_in page) ∷ text_element (range_in page) ∷ stand_elements page.rectangle 0 page.stands.items
elements_of (Box r) = rectangle_element [] r ∷ []
elements_of (Record line) = record_element line ∷ []
elements_of (Slot slot) = slot_element slot ∷ text_element (words_in slot.rectangle slot.words) ∷ []
elements_of (Cell cell) = rectangle_element [] cell.rectangle ∷ text_element (words_in cell.rectangle cell.words) ∷ []
elements_of (Line line) = line_element line ∷ []
elements_of (Text text) = text_element text ∷ []

-- what is seen of a document, however large it is shown: all of it
abbrev pub view_attribute : ℕ → ℕ → Attribute
view_attribute width height = attribute (codes "viewBox") (codes "0 0 " ++ (decimal width ++ (codes " " ++ decimal height)))

abbrev pub document_attributes : ℕ → ℕ → List Attribute
document_attributes width height =
    attribute (codes "xmlns") (codes "http://www.w3.org/2000/svg") ∷ number (codes "width") width ∷ number (codes "height") height ∷ view_attribute width height
    ∷ attribute (codes "font-family") (codes "DejaVu Sans, Verdana, Helvetica, Arial, sans-serif") ∷ attribute (codes "role") (codes "img") ∷ []

-- an element of nothing but words
abbrev pub words_element : List ℕ → List ℕ → Element
words_element name words = record { name = name; attributes = []; content = words }

-- the colours on a dark ground, for a reader who prefers one
abbrev pub dark_style : List ℕ
dark_style =
    codes "@media (prefers-color-scheme: dark) {[fill='#ffffff']{fill:#0d1117}[fill='#1b1f24']{fill:#e6edf3}[stroke='#1b1f24']{stroke:#e6edf3}"
    ++ codes "[fill='#57606a']{fill:#9ba4ae}[stroke='#57606a']{stroke:#9ba4ae}[fill='#ddf4e4']{fill:#12361f}[fill='#dbe9ff']{fill:#16304f}"
    ++ codes "[fill='#ffe08a']{fill:#5a4500}[fill='#ffc9c4']{fill:#5e1f1b}[fill='#e4d4fa']{fill:#3d2a5c}"
    ++ codes "[stroke='#0a5ec2']{stroke:#58a6ff}[stroke='#1a7f37']{stroke:#3fb950}[stroke='#bc4c00']{stroke:#f0883e}[fill='#bc4c00']{fill:#f0883e}"
    ++ codes "[fill='#8250df']{fill:#d2a8ff}[stroke='#8250df']{stroke:#d2a8ff}[stroke='#cf222e']{stroke:#ff7b72}[fill='#cf222e']{fill:#ff7b72}}"

-- the ground of a picture
abbrev pub ground_element : Element
ground_element = record {
  name = codes "rect";
  attributes = attribute (codes "width") (codes "100%") ∷ attribute (codes "height") (codes "100%") ∷ attribute (codes "fill") (codes "#ffffff") ∷ [];
  content = [];
}

-- what stands in a document before its shapes: its name and what it shows, for who can't see it, its dark colours, and its ground
abbrev pub head_elements : List ℕ → List ℕ → List Element
head_elements title description = words_element (codes "title") title ∷ words_element (codes "desc") description ∷ words_element (codes "style") dark_style ∷ ground_element ∷ []

-- a document of this width and height, by its name and by what it shows, with the shapes one over another
abbrev pub document_text : ℕ → ℕ → List ℕ → List ℕ → List Shape → List ℕ
document_text width height title description shapes =
    open_text (codes "svg") (document_attributes width height) ++ codes "\n" ++ flat_map element_text (head_elements title description)
    ++ flat_map element_text (flat_map elements_of shapes) ++ close_text (codes "svg")
