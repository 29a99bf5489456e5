use Rattle.std.proofs.Common.{◌++◌}
use Rattle.std.specs.Prelude.{codes, decimal}
use Rattle.std.proofs.lemmas.Grind.{flat_map-append}
use Rattle.byte_streams.proofs.Showing.{shows_then}
use Rattle.tree_picture.specs.Document.{escaped_byte}
use Rattle.drawing.proofs.elements.show_view.Goals as goal

pub returns : goal.returns
returns g c =
    rw (flat_map-append escaped_byte (decimal c.args.width) (codes " " ++ decimal c.args.height))
    (shows_then (shows_then c.show.ensures (shows_then c.show_decimal.ensures (shows_then c.show-2.ensures c.show_decimal-2.ensures))) c.show-3.ensures)
