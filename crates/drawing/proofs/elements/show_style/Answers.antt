use Rattle.byte_streams.proofs.Showing.{no_text, shows_then}
use Rattle.drawing.proofs.elements.show_style.Goals as goal

pub returns : goal.returns
returns g c = rw (c.from.ensures, c.weight_of.ensures) at (shows_then c.show_number_attribute.ensures (shows_then c.show_attribute.ensures (shows_then c.show_colour.ensures (no_text _))))
