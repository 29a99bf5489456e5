use Rattle.std.proofs.Common.{sym, ◌∙◌}
use Rattle.byte_streams.proofs.Showing.{shows_then}
use Rattle.filming.proofs.maps.show_loss.Goals as goal

pub returns : goal.returns
returns g c =
    rw (sym (rw c.as_slice.ensures.bytes at c.has_key.ensures) ∙ c.if-has_key.false)
    (rw c.as_slice-2.ensures.bytes at (shows_then (shows_then c.show.ensures c.show_token.ensures) c.show-2.ensures))
