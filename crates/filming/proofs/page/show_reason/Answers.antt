use Rattle.byte_streams.proofs.Showing.{shows_then}
use Rattle.filming.proofs.page.show_reason.Goals as goal

pub returns : goal.returns
returns g c = shows_then (shows_then c.show.ensures c.show-2.ensures) c.show-3.ensures
