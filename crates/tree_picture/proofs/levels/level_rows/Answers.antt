use Rattle.std.proofs.Common.{◌≡◌, ◌≤◌, ◌+◌, [], ◌∷◌, ap, arith, length, subst, sym, ◌∙◌}
use Rattle.std.specs.List.{AllZip}
use Rattle.std.proofs.lemmas.List.{take_all}
use Rattle.tree_picture.specs.Marks.{IsMarkFor}
use Rattle.tree_picture.specs.Layout.{AreLaidTo}
use Rattle.tree_picture.specs.Ranges.{page_range}
use Rattle.tree_picture.specs.Sizes.{IsWideFor, page_height}
use Rattle.tree_picture.specs.RecordLines.{page_records}
use Rattle.tree_picture.specs.Stands.{page_stands}
use Rattle.tree_picture.proofs.Heights.{flat_next, map_next, told_next}
use Rattle.tree_picture.proofs.Layouts.{next_level}
use Rattle.tree_picture.proofs.Marking.{mark_next}
use Rattle.tree_picture.proofs.Rows.{here_at, laid_here}
use Rattle.tree_picture.proofs.levels.level_rows.Goals.{then-is_some, else-is_some}
use Rattle.tree_picture.proofs.levels.level_rows.Goals as goal

pub loop-page-preserved : goal.loop-page-preserved
loop-page-preserved c =
    let pages = c.pages-pages.result.now in
    let page = c.page-item.result in
    let there = c.loop-page-test.true in
    let height = c.highest-height.result in
    let here = c.in_row-here.result in
    let low = c.highest-height.ensures.few in
    let at = here_at c.loop-page.place here c.loop-page.invariant.at (omega (arith, low)) c.in_row-here.ensures in
    let same : c.if-is_some.sheet ≡ c.page_box.new.sheet = elim c.if-is_some.branch [
      | then-is_some w ↦ w.sheet-is ∙ w.side_link.ensures
      | else-is_some w ↦ w.sheet-is
    ] in
    let wide = subst (IsWideFor c.args.width) (sym (ap length c.pages-pages.ensures.pages)) c.requires.wide in
    let room = c.first_x-first.ensures wide (here.column + 1) (let few = at.few in omega (arith, few, there)) (let within = at.within in omega (arith, within)) in
    let high : page_height page ≤ height = rw (← c.page-item.is) at (c.highest-height.ensures.all c.loop-page.page-index page there) in
    record {
      pids =
          ap (λ sheet. sheet.pids) same ∙ c.in_ok-page_box.ensures.pids
          ∙ told_next _ _ _ _ (page.pid ∷ []) c.loop-page.invariant.pids (map_next (λ page. page.pid) pages c.loop-page.page-index page there c.page-item.is);
      ranges =
          ap (λ sheet. sheet.ranges) same ∙ c.in_ok-page_box.ensures.ranges
          ∙ told_next _ _ _ _ (page_range page ∷ []) c.loop-page.invariant.ranges (map_next page_range pages c.loop-page.page-index page there c.page-item.is);
      stands =
          ap (λ sheet. sheet.stands) same ∙ c.in_ok-page_box.ensures.stands
          ∙ told_next _ _ _ _ (page_stands c.args.over.now.stands.now page ∷ []) c.loop-page.invariant.stands
          (map_next (page_stands c.args.over.now.stands.now) pages c.loop-page.page-index page there c.page-item.is);
      slots = ap (λ sheet. sheet.slots) same ∙ c.in_ok-page_box.ensures.slots ∙ c.loop-page.invariant.slots;
      cells = ap (λ sheet. sheet.cells) same ∙ c.in_ok-page_box.ensures.cells ∙ c.loop-page.invariant.cells;
      records =
          ap (λ sheet. sheet.records) same ∙ c.in_ok-page_box.ensures.records
          ∙ told_next _ _ _ _ (page_records page) c.loop-page.invariant.records (flat_next page_records pages c.loop-page.page-index page there c.page-item.is);
      marks =
          mark_next (IsMarkFor c.args.root c.args.above.now) pages c.loop-page.page-index page there c.page-item.is c.args.sheet.now.marks
          c.loop-page.sheet.marks _ c.mark_of.result c.loop-page.invariant.marks
          (ap (λ sheet. sheet.marks) same ∙ c.in_ok-page_box.ensures.marks) c.mark_of.ensures;
      at = record {
        within = let within = at.within in omega (arith, within);
        few = let few = at.few in omega (arith, few);
        across = let across = at.across in omega (arith, across);
        high = let high = at.high in omega (arith, high);
      };
      laid = λ to. rw (← ap (λ sheet. sheet.boxes) same) at
          (c.in_ok-page_box.ensures.laid c.args.width (here.y + height) (here.x + 276) (laid_here height c.loop-page.place here c.in_row-here.ensures (c.loop-page.invariant.laid to))
          (let across = at.across in omega (arith, room, across)) (omega arith) (omega (arith, high)));
    }

pub overflow_add-place-in-loop-page-2 : goal.overflow_add-place-in-loop-page-2
overflow_add-place-in-loop-page-2 c =
    let here = c.in_row-here.result in
    let low = c.highest-height.ensures.few in
    let at = here_at c.loop-page.place here c.loop-page.invariant.at (omega (arith, low)) c.in_row-here.ensures in
    let wide = subst (IsWideFor c.args.width) (sym (ap length c.pages-pages.ensures.pages)) c.requires.wide in
    let room = c.first_x-first.ensures wide 0 (omega arith) (omega arith) in
    let across = at.across in
    let within = at.within in
    let narrow = c.requires.narrow in
    omega (arith, room, across, within, narrow)

pub returns-clause-laid : goal.returns-clause-laid
returns-clause-laid c = λ to.
    let end = c.loop-page.place.y + c.highest-height.result in
    next_level (c.loop-page.invariant.laid to) end 0 end (omega arith) (omega arith)

pub returns-clause-few : goal.returns-clause-few
returns-clause-few c =
    let high = c.loop-page.invariant.at.high in
    let low = c.highest-height.ensures.few in
    omega (arith, high, low, c.loop-page.auto.page-index-end, c.pages-pages.ensures.few)

pub returns-clause-marks : goal.returns-clause-marks
returns-clause-marks c =
    let told = c.loop-page.invariant.marks in (
      told.0,
      told.1,
      rw (take_all c.loop-page.page-index c.pages-pages.result.now c.loop-page-test.false ∙ c.pages-pages.ensures.pages) at told.2,
    )
