use Rattle.std.proofs.Common.{subst, sym}
use Rattle.byte_streams.specs.Output.{Prints}
use Rattle.byte_streams.proofs.Showing.{shows_then}
use Rattle.drawing.proofs.Bytes.{page_texts}
use Rattle.drawing.proofs.elements.show_page.Goals as goal

pub returns : goal.returns
returns g c =
    subst (Prints _ _) (sym (page_texts c.args.page.now)) (shows_then c.show_page_box.ensures (shows_then c.show_page_texts.ensures (rw c.as_slice.ensures.value at c.show_stands.ensures)))
