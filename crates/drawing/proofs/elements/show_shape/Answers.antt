use Rattle.byte_streams.proofs.Showing.{no_text, shows_then}
use Rattle.drawing.proofs.elements.show_shape.Goals as goal

pub returns-in-Page : goal.returns-in-Page
returns-in-Page g c = rw c.in-Page.is c.show_page.ensures

pub returns-in-Box : goal.returns-in-Box
returns-in-Box g c = rw c.in-Box.is (shows_then c.show_box.ensures (no_text _))

pub returns-in-Line : goal.returns-in-Line
returns-in-Line g c = rw c.in-Line.is (shows_then c.show_line.ensures (no_text _))

pub returns-in-Text : goal.returns-in-Text
returns-in-Text g c = rw c.in-Text.is (shows_then c.show_text.ensures (no_text _))

pub returns-in-Record : goal.returns-in-Record
returns-in-Record g c = rw c.in-Record.is (shows_then c.show_record.ensures (no_text _))

pub returns-in-Slot : goal.returns-in-Slot
returns-in-Slot g c = rw c.in-Slot.is c.show_slot.ensures

pub returns-in-Cell : goal.returns-in-Cell
returns-in-Cell g c = rw c.in-Cell.is c.show_cell.ensures
