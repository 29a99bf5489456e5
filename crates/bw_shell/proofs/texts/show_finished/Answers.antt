use Rattle.byte_streams.proofs.Showing.{shows_then, no_text}
use Rattle.bw_shell.proofs.texts.show_finished.Goals as goal

pub returns-in-GoesOn : goal.returns-in-GoesOn
returns-in-GoesOn g c = rw c.in-GoesOn.is (shows_then c.show_number.ensures c.show.ensures)

pub returns-in-Linked : goal.returns-in-Linked
returns-in-Linked g c = rw c.in-Linked.is (no_text _)
