use Rattle.byte_streams.proofs.Showing.{shows_then, no_text}
use Rattle.drawing.proofs.elements.show_slot_box.Goals as goal

pub returns : goal.returns
returns g c = shows_then (shows_then (shows_then (shows_then c.show.ensures (shows_then c.show_slot_name.ensures c.show_rectangle.ensures)) c.show-2.ensures) (no_text _)) c.show-3.ensures
