use Rattle.byte_streams.proofs.Showing.{shows_then, no_text}
use Rattle.drawing.proofs.elements.show_head.Goals as goal

pub returns : goal.returns
returns g c =
    shows_then (shows_then (shows_then c.show.ensures c.show_escaped.ensures) c.show-2.ensures)
    (shows_then (shows_then (shows_then c.show-3.ensures c.show_escaped-2.ensures) c.show-4.ensures)
    (shows_then c.show_dark_style.ensures (shows_then c.show-5.ensures (no_text _))))
