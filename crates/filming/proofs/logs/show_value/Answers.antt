use Rattle.byte_streams.proofs.Showing.{shows_then}
use Rattle.filming.proofs.logs.show_value.Goals as goal

pub returns-in-Some : goal.returns-in-Some
returns-in-Some g c = rw c.in-Some.is (rw c.as_slice.ensures.bytes at (shows_then c.show.ensures c.show_token.ensures))

pub returns-in-None : goal.returns-in-None
returns-in-None g c = rw c.in-None.is c.show-in-None.ensures
