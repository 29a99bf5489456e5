use Rattle.byte_streams.proofs.Showing.{shows_then}
use Rattle.filming.proofs.page.show_guide.Goals as goal

pub returns : goal.returns
returns g c =
    shows_then (shows_then (shows_then (shows_then (shows_then (shows_then (shows_then (shows_then (shows_then (shows_then (shows_then (shows_then
    (shows_then (shows_then (shows_then (shows_then (shows_then (shows_then (shows_then (shows_then (shows_then (shows_then (shows_then
    (shows_then (shows_then (shows_then (shows_then (shows_then (shows_then (shows_then (shows_then (shows_then (shows_then (shows_then
    (shows_then c.show.ensures c.show-2.ensures) c.show-3.ensures) c.show-4.ensures) c.show-5.ensures) c.show-6.ensures) c.show-7.ensures)
    c.show-8.ensures) c.show-9.ensures) c.show-10.ensures) c.show-11.ensures) c.show-12.ensures) c.show-13.ensures) c.show-14.ensures)
    c.show-15.ensures) c.show-16.ensures) c.show-17.ensures) c.show-18.ensures) c.show-19.ensures) c.show-20.ensures) c.show-21.ensures)
    c.show-22.ensures) c.show-23.ensures) c.show-24.ensures) c.show-25.ensures) c.show-26.ensures) c.show-27.ensures) c.show-28.ensures)
    c.show-29.ensures) c.show-30.ensures) c.show-31.ensures) c.show-32.ensures) c.show-33.ensures) c.show-34.ensures) c.show-35.ensures)
    c.show-36.ensures
