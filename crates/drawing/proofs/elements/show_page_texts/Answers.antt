use Rattle.byte_streams.proofs.Showing.{no_text, shows_then}
use Rattle.drawing.proofs.elements.show_page_texts.Goals as goal

pub returns : goal.returns
returns g c =
    rw (c.as_slice.ensures, c.page_name-name.ensures, c.word-word.ensures, c.as_slice-2.ensures, c.style-bold.ensures, c.style-warning.ensures, c.style-plain.ensures)
    at (shows_then c.show_label.ensures (shows_then c.show_label-2.ensures (shows_then c.show_label-3.ensures (no_text _))))
