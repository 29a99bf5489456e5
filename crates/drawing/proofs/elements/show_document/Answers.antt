use Rattle.byte_streams.proofs.Showing.{shows_then}
use Rattle.drawing.proofs.elements.show_document.Goals as goal

pub returns : goal.returns
returns g c =
    rw (c.as_slice.ensures, c.as_slice-2.ensures, c.as_slice-3.ensures.value)
    at (shows_then
    (shows_then (shows_then (shows_then (shows_then (shows_then c.show.ensures c.show_document_attributes.ensures) c.show-2.ensures) c.show-3.ensures) c.show_head.ensures) c.show_shapes.ensures)
    c.show-4.ensures)
