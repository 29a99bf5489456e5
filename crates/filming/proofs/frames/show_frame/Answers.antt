use Rattle.byte_streams.proofs.Showing.{shows_then}
use Rattle.filming.proofs.frames.show_frame.Goals as goal

pub returns : goal.returns
returns g c =
    rw (c.as_slice.ensures.value, c.as_slice-2.ensures.value)
    at (shows_then
    (shows_then
    (shows_then (shows_then (shows_then (shows_then (shows_then c.show_frame_begin.ensures c.show_change.ensures) c.show_reason.ensures) c.show_place.ensures) c.show_document.ensures)
    c.show_map.ensures)
    c.show_log.ensures)
    c.show_frame_end.ensures)
