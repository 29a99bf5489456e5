use Rattle.byte_streams.proofs.Showing.{shows_then}
use Rattle.filming.proofs.page.show_tail.Goals as goal

pub returns : goal.returns
returns g c =
    shows_then (shows_then (shows_then (shows_then (shows_then (shows_then (shows_then (shows_then (shows_then (shows_then (shows_then (shows_then
    (shows_then (shows_then c.show.ensures c.show-2.ensures) c.show-3.ensures) c.show-4.ensures) c.show-5.ensures) c.show-6.ensures) c.show-7.ensures)
    c.show-8.ensures) c.show-9.ensures) c.show-10.ensures) c.show-11.ensures) c.show-12.ensures) c.show-13.ensures) c.show-14.ensures)
    c.show-15.ensures
