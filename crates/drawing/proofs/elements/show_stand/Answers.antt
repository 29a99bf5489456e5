use Rattle.byte_streams.proofs.Showing.{shows_then}
use Rattle.drawing.proofs.elements.show_stand.Goals as goal

pub returns : goal.returns
returns g c =
    rw (c.as_slice.ensures, c.words.ensures, c.style.ensures)
    at (shows_then
    (shows_then (shows_then (shows_then c.show.ensures (shows_then c.show_place.ensures (shows_then c.show_stand_height.ensures c.show_style.ensures))) c.show-2.ensures) c.show_escaped.ensures)
    c.show-3.ensures)
