use Rattle.byte_streams.proofs.Showing.{no_text, shows_then}
use Rattle.drawing.proofs.elements.show_record_attributes.Goals as goal

pub returns : goal.returns
returns g c =
    rw (c.colour.ensures, c.decoration.ensures) at (shows_then c.show_number_attribute.ensures (shows_then c.show_number_attribute-2.ensures
    (shows_then c.show_attribute.ensures (shows_then c.show_colour.ensures (shows_then c.show_attribute-2.ensures (no_text _))))))
