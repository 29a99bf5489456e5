-- One shape more.
use Rattle.std.proofs.Common.{◌≡◌, List, [], ◌∷◌, ◌++◌, refl, ap}
use Rattle.tree_picture.specs.declared.shape.CellBox.{CellBox}
use Rattle.tree_picture.specs.declared.shape.Line.{Line as LineOf}
use Rattle.tree_picture.specs.declared.shape.PageBox.{PageBox}
use Rattle.tree_picture.specs.declared.shape.RecordLine.{RecordLine as RecordLineOf}
use Rattle.tree_picture.specs.declared.shape.Rectangle.{Rectangle}
use Rattle.tree_picture.specs.declared.shape.Shape.{Shape}
use Rattle.tree_picture.specs.declared.shape.Shape.TheVariants.{Page, Box, Record, Line, Slot, Cell, Text}
use Rattle.tree_picture.specs.declared.shape.SlotBox.{SlotBox}
use Rattle.tree_picture.specs.declared.shape.Text.{Text as TextOf}
use Rattle.tree_picture.specs.Pages.{cell_on_front, line_drawn, on_front, pages_in, record_on_front, slot_drawn, slot_on_front, with_cells, with_page}
use Rattle.tree_picture.specs.Pages.{with_records, with_slots}

pub page_more : (xs : List Shape) (page : PageBox) → pages_in (xs ++ Page page ∷ []) ≡ with_page (pages_in xs) page
page_more [] page = refl
page_more (Page first ∷ xs) page = ap (on_front first) (page_more xs page)
page_more (Box r ∷ xs) page = page_more xs page
page_more (Record line ∷ xs) page = ap (record_on_front (line_drawn line)) (page_more xs page)
page_more (Slot slot ∷ xs) page = ap (slot_on_front (slot_drawn slot)) (page_more xs page)
page_more (Cell cell ∷ xs) page = ap (cell_on_front cell.cell) (page_more xs page)
page_more (Line line ∷ xs) page = page_more xs page
page_more (Text text ∷ xs) page = page_more xs page

pub record_more : (xs : List Shape) (line : RecordLineOf) → pages_in (xs ++ Record line ∷ []) ≡ with_records (pages_in xs) (line_drawn line ∷ [])
record_more [] line = refl
record_more (Page first ∷ xs) line = ap (on_front first) (record_more xs line)
record_more (Box r ∷ xs) line = record_more xs line
record_more (Record first ∷ xs) line = ap (record_on_front (line_drawn first)) (record_more xs line)
record_more (Slot slot ∷ xs) line = ap (slot_on_front (slot_drawn slot)) (record_more xs line)
record_more (Cell cell ∷ xs) line = ap (cell_on_front cell.cell) (record_more xs line)
record_more (Line first ∷ xs) line = record_more xs line
record_more (Text text ∷ xs) line = record_more xs line

pub slot_more : (xs : List Shape) (slot : SlotBox) → pages_in (xs ++ Slot slot ∷ []) ≡ with_slots (pages_in xs) (slot_drawn slot ∷ [])
slot_more [] slot = refl
slot_more (Page first ∷ xs) slot = ap (on_front first) (slot_more xs slot)
slot_more (Box r ∷ xs) slot = slot_more xs slot
slot_more (Record line ∷ xs) slot = ap (record_on_front (line_drawn line)) (slot_more xs slot)
slot_more (Slot first ∷ xs) slot = ap (slot_on_front (slot_drawn first)) (slot_more xs slot)
slot_more (Cell cell ∷ xs) slot = ap (cell_on_front cell.cell) (slot_more xs slot)
slot_more (Line line ∷ xs) slot = slot_more xs slot
slot_more (Text text ∷ xs) slot = slot_more xs slot

pub cell_more : (xs : List Shape) (cell : CellBox) → pages_in (xs ++ Cell cell ∷ []) ≡ with_cells (pages_in xs) (cell.cell ∷ [])
cell_more [] cell = refl
cell_more (Page first ∷ xs) cell = ap (on_front first) (cell_more xs cell)
cell_more (Box r ∷ xs) cell = cell_more xs cell
cell_more (Record line ∷ xs) cell = ap (record_on_front (line_drawn line)) (cell_more xs cell)
cell_more (Slot slot ∷ xs) cell = ap (slot_on_front (slot_drawn slot)) (cell_more xs cell)
cell_more (Cell first ∷ xs) cell = ap (cell_on_front first.cell) (cell_more xs cell)
cell_more (Line line ∷ xs) cell = cell_more xs cell
cell_more (Text text ∷ xs) cell = cell_more xs cell

-- a shape that is none of these
same : (xs : List Shape) (shape : Shape) → pages_in (shape ∷ []) ≡ pages_in [] → pages_in (xs ++ shape ∷ []) ≡ pages_in xs
same [] shape none = none
same (Page first ∷ xs) shape none = ap (on_front first) (same xs shape none)
same (Box r ∷ xs) shape none = same xs shape none
same (Record line ∷ xs) shape none = ap (record_on_front (line_drawn line)) (same xs shape none)
same (Slot slot ∷ xs) shape none = ap (slot_on_front (slot_drawn slot)) (same xs shape none)
same (Cell cell ∷ xs) shape none = ap (cell_on_front cell.cell) (same xs shape none)
same (Line line ∷ xs) shape none = same xs shape none
same (Text text ∷ xs) shape none = same xs shape none

pub box_more : (xs : List Shape) (r : Rectangle) → pages_in (xs ++ Box r ∷ []) ≡ pages_in xs
box_more xs r = same xs (Box r) refl

pub line_more : (xs : List Shape) (line : LineOf) → pages_in (xs ++ Line line ∷ []) ≡ pages_in xs
line_more xs line = same xs (Line line) refl

pub text_more : (xs : List Shape) (text : TextOf) → pages_in (xs ++ Text text ∷ []) ≡ pages_in xs
text_more xs text = same xs (Text text) refl
