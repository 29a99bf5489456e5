use Rattle.byte_streams.proofs.Showing.{shows_then}
use Rattle.filming.proofs.logs.show_update.Goals as goal

pub returns : goal.returns
returns g c =
    rw (c.as_slice.ensures.bytes, c.key.ensures, c.value.ensures)
    at (shows_then (shows_then (shows_then c.show.ensures c.show_token.ensures) c.show_value.ensures) c.show-2.ensures)
