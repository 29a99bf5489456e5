use Rattle.byte_streams.proofs.Showing.{shows_then}
use Rattle.bw_shell.proofs.texts.show_back_page.Goals as goal

pub returns : goal.returns
returns g c = shows_then (shows_then (shows_then c.show.ensures c.show_number.ensures) c.show_items_back.ensures) c.show_next.ensures
