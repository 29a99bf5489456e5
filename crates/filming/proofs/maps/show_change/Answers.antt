use Rattle.std.proofs.Common.{sym, ◌∙◌}
use Rattle.byte_streams.proofs.Showing.{shows_then}
use Rattle.filming.proofs.maps.show_change.Goals as goal

pub returns : goal.returns
returns g c = rw (sym c.is_unchanged.ensures ∙ c.if-is_unchanged.false) (shows_then c.show_gains.ensures c.show_losses.ensures)
