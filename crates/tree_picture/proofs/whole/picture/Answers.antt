use Rattle.std.proofs.Common.{◌≡◌, ◌++◌, ap, ◌∙◌}
use Rattle.std.proofs.lemmas.Result.{IfOk-weaker}
use Rattle.traces.specs.trace.Trace.{memory_of}
use Rattle.tree_picture.specs.Cells.{cells_from}
use Rattle.tree_picture.specs.Pages.{pages_in}
use Rattle.tree_picture.proofs.whole.picture.Goals as goal

pub returns-clause-cells : goal.returns-clause-cells
returns-clause-cells c =
    let told = c.in_ok-y.ensures in
    let own = cells_from (memory_of c.args.core.now.limits c.args.core.now.entries) 0 told.0 in
    let before = ap (λ sheet. sheet.cells) c.in_ok-under.ensures ∙ ap (λ sheet. sheet.cells) c.in_ok-slot_boxes.ensures ∙ c.in_ok-end.ensures.cells
    ∙ ap (λ sheet. sheet.cells) (c.all_links.ensures ∙ c.head.ensures ∙ c.new-sheet.ensures) in
    IfOk-weaker c.finish.result (λ picture. pages_in picture.shapes.items ≡ c.legend.new.sheet) _
    (λ picture same. (told.0, told.1, ap (λ sheet. sheet.cells) (same ∙ c.legend.ensures ∙ told.2) ∙ ap (λ cells. cells ++ own) before)) c.finish.ensures.shapes
