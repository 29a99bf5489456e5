use Rattle.std.proofs.Common.{[], ◌∷◌, ◌++◌, ap, arith, false, refl, subst, sym, ◌∙◌}
use Rattle.traces.specs.chain.Chains.{high_in, low_in}
use Rattle.tree_picture.specs.declared.colour.Colour.TheVariants.{Ink}
use Rattle.tree_picture.specs.Layout.{AreLaidTo}
use Rattle.tree_picture.specs.RecordLines.{lines_under}
use Rattle.tree_picture.specs.Stands.{stands_at}
use Rattle.tree_picture.proofs.Layouts.{one_more}
use Rattle.tree_picture.proofs.Ranges.{page_ends, whole_range}
use Rattle.tree_picture.proofs.boxes.page_box.Goals as goal

pub returns-clause-pids : goal.returns-clause-pids
returns-clause-pids c =
    ap (λ sheet. sheet.pids) c.in_ok-record_boxes.ensures ∙ ap (λ sheet. sheet.pids) c.in_ok-page.ensures
    ∙ ap (λ pid. c.args.sheet.now.pids ++ pid ∷ []) c.pid-2.ensures

pub returns-clause-marks : goal.returns-clause-marks
returns-clause-marks c =
    ap (λ sheet. sheet.marks) c.in_ok-record_boxes.ensures ∙ ap (λ sheet. sheet.marks) c.in_ok-page.ensures

pub returns-clause-stands : goal.returns-clause-stands
returns-clause-stands c =
    ap (λ sheet. sheet.stands) c.in_ok-record_boxes.ensures ∙ ap (λ sheet. sheet.stands) c.in_ok-page.ensures
    ∙ ap (λ stands. c.args.sheet.now.stands ++ stands ∷ []) (c.in_ok-own.ensures ∙ ap (stands_at c.args.stands.now) c.pid.ensures)

pub returns-clause-slots : goal.returns-clause-slots
returns-clause-slots c = ap (λ sheet. sheet.slots) c.in_ok-record_boxes.ensures ∙ ap (λ sheet. sheet.slots) c.in_ok-page.ensures

pub returns-clause-cells : goal.returns-clause-cells
returns-clause-cells c = ap (λ sheet. sheet.cells) c.in_ok-record_boxes.ensures ∙ ap (λ sheet. sheet.cells) c.in_ok-page.ensures

pub returns-clause-records : goal.returns-clause-records
returns-clause-records c =
    ap (λ sheet. sheet.records) c.in_ok-record_boxes.ensures ∙ ap (λ sheet. sheet.records ++ lines_under [] c.records.result.now) c.in_ok-page.ensures
    ∙ ap (λ chain. c.args.sheet.now.records ++ lines_under [] chain) c.records.ensures.chain

pub returns-clause-ranges : goal.returns-clause-ranges
returns-clause-ranges c =
    ap (λ sheet. sheet.ranges) c.in_ok-record_boxes.ensures ∙ ap (λ sheet. sheet.ranges) c.in_ok-page.ensures
    ∙ ap (λ words. c.args.sheet.now.ranges ++ words ∷ [])
    (whole_range _ _ _ _ _ _ c.with_range.ensures c.new-range.ensures (c.low.ensures ∙ c.page.ensures.low) (c.high.ensures ∙ c.page-2.ensures.high))

pub returns-clause-laid : goal.returns-clause-laid
returns-clause-laid c = λ width bottom next to right further high.
    let exact = c.page_height.ensures.exact in
    rw (← ap (λ sheet. sheet.boxes) c.in_ok-record_boxes.ensures ∙ ap (λ sheet. sheet.boxes) c.in_ok-page.ensures) at
    (one_more to (record { x = c.args.x; y = c.args.y; width = 236; height = c.page_height.result; fill = c.colour.result; edge = Ink; thick = false }) refl refl
    (record { wide = omega arith; high = omega (arith, exact); right = omega (arith, right); bottom = omega (arith, exact, high) }) next (omega (arith, further)))

pub invariant_of-page : goal.invariant_of-page
invariant_of-page c = record {
  inside = page_ends c.pid-2.result c.args.mark c.with_range.new.words (low_in c.args.page.now.chain) (high_in c.args.page.now.chain) (let small = c.pid-2.type_inv in omega (arith, small))
      (whole_range _ _ _ _ _ _ c.with_range.ensures c.new-range.ensures (c.low.ensures ∙ c.page.ensures.low) (c.high.ensures ∙ c.page-2.ensures.high));
}
