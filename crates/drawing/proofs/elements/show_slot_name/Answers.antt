use Rattle.byte_streams.proofs.Showing.{shows_then}
use Rattle.drawing.proofs.elements.show_slot_name.Goals as goal

pub returns : goal.returns
returns g c = shows_then (shows_then c.show.ensures c.show_digits.ensures) c.show-2.ensures
