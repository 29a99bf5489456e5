use Rattle.byte_streams.proofs.Showing.{no_text}
use Rattle.bw_shell.proofs.texts.show_last_line.Goals as goal

pub returns-in-None : goal.returns-in-None
returns-in-None g c = rw c.in-None.is (no_text _)
