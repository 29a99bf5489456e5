use Rattle.byte_streams.proofs.Showing.{shows_then}
use Rattle.bw_shell.proofs.texts.show_key.Goals as goal

pub returns : goal.returns
returns g c = rw c.as_slice.ensures.bytes at (shows_then (shows_then c.show.ensures c.show_token.ensures) c.show-2.ensures)
