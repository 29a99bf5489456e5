use Rattle.byte_streams.proofs.Showing.{shows_then, no_text}
use Rattle.drawing.proofs.elements.show_document_attributes.Goals as goal

pub returns : goal.returns
returns g c =
    shows_then c.show_attribute.ensures (shows_then c.show_number_attribute.ensures (shows_then c.show_number_attribute-2.ensures (shows_then c.show_view.ensures
    (shows_then c.show_attribute-2.ensures (shows_then c.show_attribute-3.ensures (no_text _))))))
