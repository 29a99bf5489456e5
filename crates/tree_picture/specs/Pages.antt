-- The pages, the slots and the cells of a picture.
use Rattle.std.specs.Prelude.{ℕ, List, [], ◌∷◌, ◌++◌}
use Rattle.tree_picture.specs.declared.cells.Cell.{Cell as CellOf}
use Rattle.tree_picture.specs.declared.shape.Mark.{Mark}
use Rattle.tree_picture.specs.declared.shape.PageBox.{PageBox}
use Rattle.tree_picture.specs.declared.shape.RecordLine.{RecordLine as RecordLineOf}
use Rattle.tree_picture.specs.declared.shape.Rectangle.{Rectangle}
use Rattle.tree_picture.specs.declared.shape.Shape.{Shape}
use Rattle.tree_picture.specs.declared.shape.Shape.TheVariants.{Page, Box, Record, Line, Slot, Cell, Text}
use Rattle.tree_picture.specs.declared.shape.SlotBox.{SlotBox}
use Rattle.tree_picture.specs.declared.stands.Stand.{Stand}
use Rattle.tree_picture.specs.RecordLines.{RecordLine}
use Rattle.tree_picture.specs.Touches.{TouchedSlot}

-- the PIDs, the boxes, the words of the ranges and the marks of some pages, and the actors at each, all in the pages' order; the lines of the records in them; slots; and
-- cells
pub record DrawnPages : Type 0 where
  pub pids : List ℕ
  pub boxes : List Rectangle
  pub ranges : List (List ℕ)
  pub marks : List Mark
  pub stands : List (List Stand)
  pub records : List RecordLine
  pub slots : List TouchedSlot
  pub cells : List CellOf

-- one page, one line of a record, one slot or one cell before some others
abbrev pub on_front : PageBox → DrawnPages → DrawnPages
on_front page pages = record {
  pids = page.pid ∷ pages.pids;
  boxes = page.rectangle ∷ pages.boxes;
  ranges = page.range ∷ pages.ranges;
  marks = page.mark ∷ pages.marks;
  stands = page.stands.items ∷ pages.stands;
  records = pages.records;
  slots = pages.slots;
  cells = pages.cells;
}

abbrev pub record_on_front : RecordLine → DrawnPages → DrawnPages
record_on_front line pages = record pages { records = line ∷ pages.records }

abbrev pub slot_on_front : TouchedSlot → DrawnPages → DrawnPages
slot_on_front slot pages = record pages { slots = slot ∷ pages.slots }

abbrev pub cell_on_front : CellOf → DrawnPages → DrawnPages
cell_on_front cell pages = record pages { cells = cell ∷ pages.cells }

-- the words of a line that was drawn, and whether it is drawn as one that counts
abbrev pub line_drawn : RecordLineOf → RecordLine
line_drawn line = record { words = line.words; counts = line.counts }

-- a slot that was drawn, and what is told of the last step's doing with it
abbrev pub slot_drawn : SlotBox → TouchedSlot
slot_drawn drawn = record { slot = drawn.slot; touch = drawn.touch }

-- what is among the shapes
abbrev pub pages_in : List Shape → DrawnPages
pages_in [] = record { pids = []; boxes = []; ranges = []; marks = []; stands = []; records = []; slots = []; cells = [] }
pages_in (Page page ∷ shapes) = on_front page (pages_in shapes)
pages_in (Box r ∷ shapes) = pages_in shapes
pages_in (Record line ∷ shapes) = record_on_front (line_drawn line) (pages_in shapes)
pages_in (Slot slot ∷ shapes) = slot_on_front (slot_drawn slot) (pages_in shapes)
pages_in (Cell cell ∷ shapes) = cell_on_front cell.cell (pages_in shapes)
pages_in (Line line ∷ shapes) = pages_in shapes
pages_in (Text text ∷ shapes) = pages_in shapes

abbrev pub pids_of : List Shape → List ℕ
pids_of shapes = (pages_in shapes).pids

abbrev pub boxes_of : List Shape → List Rectangle
boxes_of shapes = (pages_in shapes).boxes

abbrev pub ranges_of : List Shape → List (List ℕ)
ranges_of shapes = (pages_in shapes).ranges

abbrev pub marks_of : List Shape → List Mark
marks_of shapes = (pages_in shapes).marks

abbrev pub stands_of : List Shape → List (List Stand)
stands_of shapes = (pages_in shapes).stands

abbrev pub records_of : List Shape → List RecordLine
records_of shapes = (pages_in shapes).records

abbrev pub slots_of : List Shape → List TouchedSlot
slots_of shapes = (pages_in shapes).slots

abbrev pub cells_of : List Shape → List CellOf
cells_of shapes = (pages_in shapes).cells

-- one page, some lines of records, some slots or some cells more
abbrev pub with_page : DrawnPages → PageBox → DrawnPages
with_page pages page = record {
  pids = pages.pids ++ page.pid ∷ [];
  boxes = pages.boxes ++ page.rectangle ∷ [];
  ranges = pages.ranges ++ page.range ∷ [];
  marks = pages.marks ++ page.mark ∷ [];
  stands = pages.stands ++ page.stands.items ∷ [];
  records = pages.records;
  slots = pages.slots;
  cells = pages.cells;
}

abbrev pub with_records : DrawnPages → List RecordLine → DrawnPages
with_records pages lines = record pages { records = pages.records ++ lines }

abbrev pub with_slots : DrawnPages → List TouchedSlot → DrawnPages
with_slots pages slots = record pages { slots = pages.slots ++ slots }

abbrev pub with_cells : DrawnPages → List CellOf → DrawnPages
with_cells pages cells = record pages { cells = pages.cells ++ cells }
