use Rattle.byte_streams.proofs.Showing.{shows_then}
use Rattle.filming.proofs.run.show_last_frame.Goals as goal

pub returns-then-not-whole : goal.returns-then-not-whole
returns-then-not-whole g c =
    rw c.if-not-whole.true (shows_then (shows_then c.show_refusal_begin.ensures c.show_lone_refusal.ensures) c.show_refusal_end.ensures)

pub returns-in-Some : goal.returns-in-Some
returns-in-Some g c =
    rw (c.if-not-whole.false, c.in-Some.is)
    (shows_then (shows_then c.show_refusal_begin-in-Some.ensures c.show_refused.ensures) c.show_refusal_end-in-Some.ensures)
