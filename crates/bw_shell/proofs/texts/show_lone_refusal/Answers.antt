use Rattle.byte_streams.proofs.Showing.{shows_then}
use Rattle.bw_shell.proofs.texts.show_lone_refusal.Goals as goal

pub returns : goal.returns
returns g c = shows_then (shows_then c.show.ensures (rw c.code.ensures at c.show_number.ensures)) c.show-2.ensures
