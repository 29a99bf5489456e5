use Rattle.byte_streams.proofs.Showing.{shows_then}
use Rattle.filming.proofs.page.show_frame_begin.Goals as goal

pub returns : goal.returns
returns g c =
    shows_then
    (shows_then (shows_then (shows_then (shows_then (shows_then (shows_then c.show.ensures c.show_number.ensures) c.show-2.ensures) c.show_number-2.ensures) c.show-3.ensures)
    c.show_escaped.ensures)
    c.show_escaped-2.ensures) c.show-4.ensures
