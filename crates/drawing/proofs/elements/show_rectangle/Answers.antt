use Rattle.byte_streams.proofs.Showing.{shows_then, no_text}
use Rattle.drawing.proofs.elements.show_rectangle.Goals as goal

pub returns : goal.returns
returns g c =
    rw c.thickness_of.ensures at (shows_then c.show_number_attribute.ensures (shows_then c.show_number_attribute-2.ensures
    (shows_then c.show_number_attribute-3.ensures (shows_then c.show_number_attribute-4.ensures (shows_then c.show_attribute.ensures
    (shows_then c.show_colour.ensures (shows_then c.show_colour-2.ensures (shows_then c.show_attribute-2.ensures (no_text _)))))))))
