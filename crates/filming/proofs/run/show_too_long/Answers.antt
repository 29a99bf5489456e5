use Rattle.byte_streams.proofs.Showing.{shows_then}
use Rattle.filming.proofs.run.show_too_long.Goals as goal

pub returns : goal.returns
returns g c = shows_then (shows_then c.show.ensures c.show_number.ensures) c.show-2.ensures
