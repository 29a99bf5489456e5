use Rattle.byte_streams.proofs.Showing.{shows_then}
use Rattle.drawing.proofs.elements.show_dark_style.Goals as goal

pub returns : goal.returns
returns g c = shows_then (shows_then (shows_then (shows_then (shows_then (shows_then c.show.ensures c.show-2.ensures) c.show-3.ensures) c.show-4.ensures)
    c.show-5.ensures) c.show-6.ensures) c.show-7.ensures
