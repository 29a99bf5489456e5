use Rattle.std.proofs.Common.{sym, ◌∙◌}
use Rattle.byte_streams.proofs.Showing.{shows_then}
use Rattle.filming.proofs.maps.show_gain.Goals as goal

pub returns : goal.returns
returns g c =
    rw (sym c.has_pair.ensures ∙ c.if-has_pair.false) (rw (c.as_slice.ensures.bytes, c.as_slice-2.ensures.bytes)
    at (shows_then (shows_then (shows_then (shows_then c.show.ensures c.show_token.ensures) c.show-2.ensures) c.show_token-2.ensures) c.show-3.ensures))
