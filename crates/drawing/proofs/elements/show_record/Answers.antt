use Rattle.byte_streams.proofs.Showing.{shows_then}
use Rattle.drawing.proofs.elements.show_record.Goals as goal

pub returns : goal.returns
returns g c = rw c.as_slice.ensures at (shows_then (shows_then (shows_then (shows_then c.show.ensures c.show_record_attributes.ensures) c.show-2.ensures) c.show_escaped.ensures) c.show-3.ensures)
