use Rattle.byte_streams.proofs.Showing.{shows_then}
use Rattle.filming.proofs.places.show_found.Goals as goal

pub returns : goal.returns
returns g c =
    rw c.in-Some.is (shows_then (shows_then (shows_then (shows_then c.show.ensures c.show_number.ensures) c.show-2.ensures) c.show_number-2.ensures) c.show-3.ensures)
