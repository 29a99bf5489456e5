-- Lines of records, slots and cells told so far, and more of them.
use Rattle.std.proofs.Common.{◌≡◌, List, [], ◌++◌, ap, append_assoc, sym, ◌∙◌}
use Rattle.std.proofs.lemmas.List.{append-nil}
use Rattle.tree_picture.specs.declared.cells.Cell.{Cell}
use Rattle.tree_picture.specs.Pages.{DrawnPages, with_cells, with_records, with_slots}
use Rattle.tree_picture.specs.RecordLines.{RecordLine}
use Rattle.tree_picture.specs.Touches.{TouchedSlot}

abbrev having : DrawnPages → List RecordLine → DrawnPages
having pages lines = record pages { records = lines }

pub no_records : (pages : DrawnPages) → pages ≡ with_records pages []
no_records pages = sym (ap (having pages) (append-nil pages.records))

pub records_then : (start so_far after : DrawnPages) (more own all : List RecordLine) → so_far ≡ with_records start more → after ≡ with_records so_far own
    → all ≡ more ++ own
    → after ≡ with_records start all
records_then start so_far after more own all before later is =
    later ∙ ap (λ (pages : DrawnPages). with_records pages own) before
    ∙ ap (having start) (append_assoc start.records more own ∙ ap (λ (lines : List RecordLine). start.records ++ lines) (sym is))

abbrev holding : DrawnPages → List TouchedSlot → DrawnPages
holding pages slots = record pages { slots = slots }

pub no_slots : (pages : DrawnPages) → pages ≡ with_slots pages []
no_slots pages = sym (ap (holding pages) (append-nil pages.slots))

pub slots_then : (start so_far after : DrawnPages) (more own all : List TouchedSlot) → so_far ≡ with_slots start more → after ≡ with_slots so_far own → all
    ≡ more ++ own
    → after ≡ with_slots start all
slots_then start so_far after more own all before later is =
    later ∙ ap (λ (pages : DrawnPages). with_slots pages own) before
    ∙ ap (holding start) (append_assoc start.slots more own ∙ ap (λ (slots : List TouchedSlot). start.slots ++ slots) (sym is))

abbrev keeping : DrawnPages → List Cell → DrawnPages
keeping pages cells = record pages { cells = cells }

pub no_cells : (pages : DrawnPages) → pages ≡ with_cells pages []
no_cells pages = sym (ap (keeping pages) (append-nil pages.cells))

pub cells_then : (start so_far after : DrawnPages) (more own all : List Cell) → so_far ≡ with_cells start more → after ≡ with_cells so_far own → all ≡ more
    ++ own
    → after ≡ with_cells start all
cells_then start so_far after more own all before later is =
    later ∙ ap (λ (pages : DrawnPages). with_cells pages own) before
    ∙ ap (keeping start) (append_assoc start.cells more own ∙ ap (λ (cells : List Cell). start.cells ++ cells) (sym is))
