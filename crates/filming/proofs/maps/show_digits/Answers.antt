use Rattle.byte_streams.proofs.Showing.{shows_then}
use Rattle.filming.proofs.maps.show_digits.Goals as goal

pub returns : goal.returns
returns g c = rw (← c.in-Ok.ensures.written) (shows_then c.show.ensures c.show_escaped.ensures)
