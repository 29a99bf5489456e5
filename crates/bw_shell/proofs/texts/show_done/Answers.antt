use Rattle.byte_streams.proofs.Showing.{shows_then}
use Rattle.bw_shell.proofs.texts.show_done.Goals as goal

pub returns : goal.returns
returns g c = shows_then c.show_number.ensures c.show_reply.ensures
