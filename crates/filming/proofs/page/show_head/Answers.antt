use Rattle.byte_streams.proofs.Showing.{shows_then}
use Rattle.filming.proofs.page.show_head.Goals as goal

pub returns : goal.returns
returns g c =
    shows_then (shows_then c.show_looks.ensures c.show_guide.ensures) c.show_buttons.ensures
