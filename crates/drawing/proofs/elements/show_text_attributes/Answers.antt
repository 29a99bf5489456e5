use Rattle.byte_streams.proofs.Showing.{shows_then}
use Rattle.drawing.proofs.elements.show_text_attributes.Goals as goal

pub returns : goal.returns
returns g c = shows_then c.show_number_attribute.ensures (shows_then c.show_number_attribute-2.ensures c.show_style.ensures)
