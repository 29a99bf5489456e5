use Rattle.byte_streams.proofs.Showing.{no_text, shows_then}
use Rattle.drawing.proofs.elements.show_cell.Goals as goal

pub returns : goal.returns
returns g c = rw (c.as_slice-words.ensures, c.style-plain.ensures) at (shows_then c.show_box.ensures (shows_then c.show_label.ensures (no_text _)))
